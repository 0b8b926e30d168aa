use Rattle.flow_moves.proofs.NextMovesHappen.{sources_may, targets_may}
use Rattle.flow_moves.proofs.laws.next_moves_may_happen.Goals as goal

pub returns-clause-sources : goal.returns-clause-sources
returns-clause-sources g c = sources_may _

pub returns-clause-targets : goal.returns-clause-targets
returns-clause-targets g c = targets_may _
