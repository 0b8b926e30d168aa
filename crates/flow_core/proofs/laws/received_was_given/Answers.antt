use Rattle.flow_core.proofs.NetworksInOrder.{all_received_was_given}
use Rattle.flow_core.proofs.laws.received_was_given.Goals as goal

pub returns : goal.returns
returns g c = all_received_was_given _
