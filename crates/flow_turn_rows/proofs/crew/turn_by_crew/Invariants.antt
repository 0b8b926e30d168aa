use Rattle.flow_board.specs.Parts.{AllTasksOf}
use Rattle.flow_turn_rows.proofs.crew.turn_by_crew.Given as goal

abbrev pub invariant-loop : goal.invariant-loop
invariant-loop g l = AllTasksOf l.board l.tasks.items
