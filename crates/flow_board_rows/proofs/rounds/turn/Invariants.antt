use Rattle.flow_board.specs.Parts.{AllTasksOf}
use Rattle.flow_board_rows.proofs.rounds.turn.Given as goal

abbrev pub invariant-loop : goal.invariant-loop
invariant-loop g l = AllTasksOf l.board l.tasks.items
