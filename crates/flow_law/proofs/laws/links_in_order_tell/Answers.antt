use Rattle.flow_value.specs.declared.value.Value.{Value}
use Rattle.flow_link.proofs.LinksTell.{links_tell}
use Rattle.flow_law.proofs.laws.links_in_order_tell.Goals as goal

pub returns : goal.returns
returns c = links_tell Value
