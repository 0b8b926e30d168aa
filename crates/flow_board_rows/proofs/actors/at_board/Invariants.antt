use Rattle.std.specs.Vec.Iter.{into_iter_items}
use Rattle.flow_board.specs.At.{AllAt}
use Rattle.flow_board.specs.Parts.{AllTasksOf}
use Rattle.flow_board_rows.proofs.actors.at_board.Given as goal

-- those that are left are of the board, and the others are at it
abbrev pub invariant-loop-task : goal.invariant-loop-task
invariant-loop-task g l = AllTasksOf l.board (into_iter_items l.task-iterator) × AllAt l.board l.all.items
