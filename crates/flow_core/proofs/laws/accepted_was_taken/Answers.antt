use Rattle.flow_core.proofs.NetworksInOrder.{all_accepted_was_taken}
use Rattle.flow_core.proofs.laws.accepted_was_taken.Goals as goal

pub returns : goal.returns
returns g c = all_accepted_was_taken _
