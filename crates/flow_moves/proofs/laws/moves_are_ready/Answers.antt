use Rattle.flow_moves.proofs.MovesReady.{moves_are_ready}
use Rattle.flow_moves.proofs.laws.moves_are_ready.Goals as goal

pub returns : goal.returns
returns g c = moves_are_ready _
