use Rattle.flow_board.specs.Parts.{AllTasksOf}
use Rattle.flow_board_rows.proofs.rounds.turn_each.Given as goal

abbrev pub invariant-loop-place : goal.invariant-loop-place
invariant-loop-place l = AllTasksOf l.board l.tasks.items
