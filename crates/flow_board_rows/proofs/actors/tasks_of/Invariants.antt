use Rattle.std.specs.Vec.Iter.{into_iter_items}
use Rattle.flow_board.specs.At.{AllAt}
use Rattle.flow_board.specs.Parts.{AllTasksOf}
use Rattle.flow_board_rows.proofs.actors.tasks_of.Given as goal

-- those that are left are at the board, and the others are of it
abbrev pub invariant-loop-at : goal.invariant-loop-at
invariant-loop-at g l = AllAt l.board (into_iter_items l.at-iterator) × AllTasksOf l.board l.tasks.items
