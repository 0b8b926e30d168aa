use Rattle.std.proofs.Common.{◌≡◌}
use Rattle.flow_board.specs.Parts.{watched_block, watched_board}
use Rattle.flow_turn_rows.proofs.watched.read_to_end.Given as goal

abbrev pub invariant-loop : goal.invariant-loop
invariant-loop g l = (watched_board l.watch ≡ l.board) × (watched_block l.watch ≡ l.block)
