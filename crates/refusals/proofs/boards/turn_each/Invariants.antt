use Rattle.flow_board.specs.Parts.{AllTasksOf}
use Rattle.refusals.proofs.boards.turn_each.Given as goal

abbrev pub invariant-loop-place : goal.invariant-loop-place
invariant-loop-place g l = AllTasksOf l.board l.tasks.items
