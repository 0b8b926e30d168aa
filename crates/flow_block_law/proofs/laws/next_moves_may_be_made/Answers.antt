use Rattle.flow_block_law.proofs.NextMoves.{next_moves_may}
use Rattle.flow_block_law.proofs.laws.next_moves_may_be_made.Goals as goal

pub returns : goal.returns
returns g c = next_moves_may
