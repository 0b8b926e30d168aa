use Rattle.flow_moves.proofs.PassesHappen.{passes_happen}
use Rattle.flow_moves.proofs.laws.passes_may_happen.Goals as goal

pub returns : goal.returns
returns g c = passes_happen _
