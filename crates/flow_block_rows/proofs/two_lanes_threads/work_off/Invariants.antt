use Rattle.std.proofs.Common.{◌≡◌}
use Rattle.flow_block_rows.proofs.two_lanes_threads.work_off.Given as goal

-- each end is of its lane
abbrev pub invariant-loop-looks : goal.invariant-loop-looks
invariant-loop-looks l = (l.first.table ≡ l.first_lane) × (l.second.table ≡ l.second_lane)
