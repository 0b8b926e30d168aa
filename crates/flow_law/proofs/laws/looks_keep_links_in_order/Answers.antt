use Rattle.flow_value.specs.declared.value.Value.{Value}
use Rattle.flow_link.proofs.LooksKeepOrder.{looks_keep}
use Rattle.flow_law.proofs.laws.looks_keep_links_in_order.Goals as goal

pub returns : goal.returns
returns c = looks_keep Value
