use Rattle.std.proofs.Common.{◌≡◌, None}
use Rattle.flow_lane.specs.BlockLanes.{tables_of}
use Rattle.flow_block_rows.proofs.two_lanes_threads.wait_for_place.Given as goal

-- they are the same lanes, and no result is kept
abbrev pub invariant-loop-looks : goal.invariant-loop-looks
invariant-loop-looks l = (tables_of l.block.sides ≡ l.lanes) × (l.block.kept ≡ None)
