use Rattle.std.proofs.Common.{◌≡◌, None}
use Rattle.flow_lane.specs.BlockLanes.{tables_of}
use Rattle.flow_block_rows.proofs.two_lanes_threads.end_all.Given as goal

-- they are the same lanes, and no result is kept
abbrev pub invariant-loop-lane : goal.invariant-loop-lane
invariant-loop-lane l = (tables_of l.block.sides ≡ l.lanes) × (l.block.kept ≡ None)
