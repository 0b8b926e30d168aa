use Rattle.std.proofs.Common.{◌≡◌, ◌+◌, ◌++◌, length}
use Rattle.std.specs.Vec.Iter.{into_iter_items}
use Rattle.flow_task.proofs.lane_rows.LaneRows.push_all.Given as goal

-- the first lanes are put there
abbrev pub invariant-loop-lane : goal.invariant-loop-lane
invariant-loop-lane g l = record {
  parts : l.fn.lanes.items ≡ l.yielded ++ into_iter_items l.lane-iterator;
  rows : l.self.rows ≡ l.fn.self.rows;
  lanes : length l.self.lanes.items ≡ length l.fn.self.lanes.items + length l.yielded;
}
