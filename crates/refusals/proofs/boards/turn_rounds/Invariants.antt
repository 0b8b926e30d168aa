use Rattle.flow_board.specs.Parts.{AllTasksOf}
use Rattle.refusals.proofs.boards.turn_rounds.Given as goal

abbrev pub invariant-loop : goal.invariant-loop
invariant-loop g l = AllTasksOf l.board l.tasks.items
