use Rattle.flow_core.proofs.NextIsAllowed.{next_is_allowed}
use Rattle.flow_core.proofs.laws.next_moves_are_allowed.Goals as goal

pub returns : goal.returns
returns g c = next_is_allowed
