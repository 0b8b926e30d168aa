use Rattle.flow_core.proofs.NetworksInOrder.{kept_nets_hold}
use Rattle.flow_core.proofs.laws.kept_messages_go_to_one.Goals as goal

pub returns : goal.returns
returns g c = kept_nets_hold _
