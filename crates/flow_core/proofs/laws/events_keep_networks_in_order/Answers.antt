use Rattle.flow_core.proofs.NetworksInOrder.{all_events_keep}
use Rattle.flow_core.proofs.laws.events_keep_networks_in_order.Goals as goal

pub returns : goal.returns
returns g c = all_events_keep _
