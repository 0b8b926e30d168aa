use Rattle.std.proofs.Common.{◌≡◌, ◌≤◌, ◌++◌, length, vec_capacity}
use Rattle.std.specs.Vec.Iter.{into_iter_items}
use Rattle.flow_link.specs.Planned.{layout_of}
use Rattle.flow_task.proofs.ExitsApart.{ExitsTaken}
use Rattle.flow_task.proofs.PartsTaken.{ExitsBelow}
use Rattle.flow_task.proofs.apart.Exits.take.Given as goal

-- so many exits are taken, and there is room for the rest
abbrev pub invariant-loop-exit : goal.invariant-loop-exit
invariant-loop-exit g l = record {
  parts : l.fn.exits.items ≡ l.yielded ++ into_iter_items l.exit-iterator;
  taken : ExitsTaken (layout_of l.board.rest.plan) l.board.wires.items (length l.yielded) l.self.exits.items l.self.ends.items;
  at : ExitsBelow l.board (length l.yielded) l.self.exits.items l.yielded;
  room : length l.fn.exits.items ≤ vec_capacity l.self.exits;
  ends_room : length l.fn.exits.items ≤ vec_capacity l.self.ends;
}
