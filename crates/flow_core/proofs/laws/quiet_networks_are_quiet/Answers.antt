use Rattle.flow_core.proofs.NetworksInOrder.{still_nets_are_quiet}
use Rattle.flow_core.proofs.laws.quiet_networks_are_quiet.Goals as goal

pub returns : goal.returns
returns g c = still_nets_are_quiet _
