use Rattle.flow_board.specs.Parts.{AllTasksOf}
use Rattle.flow_turn_rows.proofs.rounds.turn_in_rounds.Given as goal

abbrev pub invariant-loop : goal.invariant-loop
invariant-loop l = AllTasksOf l.board l.tasks.items
