use Rattle.flow_block_law.proofs.Causes.{next_moves_have_causes}
use Rattle.flow_block_law.proofs.laws.next_moves_have_causes.Goals as goal

pub returns : goal.returns
returns g c = next_moves_have_causes _
