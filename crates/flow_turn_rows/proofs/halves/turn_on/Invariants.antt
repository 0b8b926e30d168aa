use Rattle.flow_board.specs.Parts.{AllTasksOf}
use Rattle.flow_turn_rows.proofs.halves.turn_on.Given as goal

abbrev pub invariant-loop : goal.invariant-loop
invariant-loop g l = AllTasksOf l.board l.first.items × AllTasksOf l.board l.second.items
