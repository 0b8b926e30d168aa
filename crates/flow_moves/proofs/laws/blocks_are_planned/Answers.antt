use Rattle.flow_moves.proofs.MerelyKept.{blocks_are_planned}
use Rattle.flow_moves.proofs.laws.blocks_are_planned.Goals as goal

pub returns : goal.returns
returns g c = blocks_are_planned _
