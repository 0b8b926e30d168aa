use Rattle.std.proofs.Common.{◌≡◌}
use Rattle.flow_link.specs.Planned.{layout_of}
use Rattle.flow_task.specs.Lanes.{lanes_before}
use Rattle.flow_task.proofs.lane_rows.lane_count.Given as goal

-- those of the first blocks are counted
abbrev pub invariant-loop-number : goal.invariant-loop-number
invariant-loop-number g l = l.count ≡ lanes_before (layout_of l.plan) l.number
