use Rattle.std.proofs.Common.{◌≡◌, ◌+◌, ◌++◌, length, map, take, vec_capacity}
use Rattle.std.specs.Vec.Iter.{into_iter_items}
use Rattle.flow_link.specs.Lists.{below}
use Rattle.flow_link.specs.Planned.{layout_of}
use Rattle.flow_task.specs.Numbers.{turned_count}
use Rattle.flow_task.specs.Parts.{AllTasksOf, task_number}
use Rattle.flow_task.proofs.board.Board.make_lanes.Given as goal

-- the first lanes have their tasks behind the others
abbrev pub invariant-loop-lane : goal.invariant-loop-lane
invariant-loop-lane g l = record {
  parts : l.fn.lanes.items ≡ l.yielded ++ into_iter_items l.lane-iterator;
  of : AllTasksOf l.fn.self l.tasks.items;
  numbers : map task_number l.tasks.items ≡ below (turned_count (layout_of l.fn.self.rest.plan) l.fn.self.opens.items + length l.yielded);
  others : take (length l.fn.tasks.items) l.tasks.items ≡ l.fn.tasks.items;
  room : vec_capacity l.tasks ≡ vec_capacity l.fn.tasks;
}
