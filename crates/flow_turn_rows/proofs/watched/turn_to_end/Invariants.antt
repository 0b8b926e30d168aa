use Rattle.std.proofs.Common.{◌≡◌}
use Rattle.flow_board.specs.Parts.{AllTasksOf, board_of, task_number}
use Rattle.flow_turn_rows.proofs.watched.turn_to_end.Given as goal

abbrev pub invariant-loop : goal.invariant-loop
invariant-loop g l = (board_of l.task ≡ l.board) × (AllTasksOf l.board l.others.items × (task_number l.task ≡ l.block))
