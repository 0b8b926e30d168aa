use Rattle.flow_core.proofs.NetworksInOrder.{all_entry_calls_keep}
use Rattle.flow_core.proofs.laws.entry_calls_keep_networks_in_order.Goals as goal

pub returns : goal.returns
returns g c = all_entry_calls_keep _
