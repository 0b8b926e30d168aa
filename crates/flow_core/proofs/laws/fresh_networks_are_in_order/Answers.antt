use Rattle.flow_core.proofs.NetworksInOrder.{fresh_nets_keep}
use Rattle.flow_core.proofs.laws.fresh_networks_are_in_order.Goals as goal

pub returns : goal.returns
returns g c = fresh_nets_keep _
