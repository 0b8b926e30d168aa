use Rattle.std.proofs.Common.{◌≡◌, None}
use Rattle.flow_lane.specs.BlockLanes.{tables_of}
use Rattle.flow_block_rows.proofs.two_lanes_threads.send.Given as goal

-- they are the same lanes, and no result is kept
abbrev pub invariant-loop-ticket : goal.invariant-loop-ticket
invariant-loop-ticket l = (tables_of l.block.sides ≡ l.lanes) × (l.block.kept ≡ None)
