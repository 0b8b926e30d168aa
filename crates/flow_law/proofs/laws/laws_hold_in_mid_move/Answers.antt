use Rattle.flow_law.proofs.KeptInMidMove.{kept_in_mid_move}
use Rattle.flow_law.proofs.laws.laws_hold_in_mid_move.Goals as goal

pub returns : goal.returns
returns c = kept_in_mid_move
