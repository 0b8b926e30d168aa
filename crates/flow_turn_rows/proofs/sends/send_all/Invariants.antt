use Rattle.std.proofs.Common.{◌≡◌}
use Rattle.flow_board.specs.At.{sending_board}
use Rattle.flow_turn_rows.proofs.sends.send_all.Given as goal

abbrev pub invariant-loop-text : goal.invariant-loop-text
invariant-loop-text g l = sending_board l.port ≡ l.board
