use Rattle.flow_core.proofs.NetworksInOrder.{kept_nets_are_lawful}
use Rattle.flow_core.proofs.laws.networks_in_order_are_lawful.Goals as goal

pub returns : goal.returns
returns g c = kept_nets_are_lawful _
