use Rattle.std.proofs.Common.{◌≡◌, length}
use Rattle.flow_link.specs.Planned.{layout_of}
use Rattle.flow_task.specs.Lanes.{lanes_before}
use Rattle.flow_task.proofs.lane_rows.LaneRows.new.Given as goal

-- the first blocks have their lanes
abbrev pub invariant-loop-number : goal.invariant-loop-number
invariant-loop-number g l = record {
  rows : length l.made.rows.items ≡ l.number;
  lanes : length l.made.lanes.items ≡ lanes_before (layout_of l.plan) l.number;
}
