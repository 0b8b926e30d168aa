use Rattle.std.proofs.Common.{◌≡◌}
use Rattle.flow_lane.specs.BlockLanes.{tables_of}
use Rattle.flow_lane.proofs.LooksGoOn.{LookedBelow}
use Rattle.flow_lane.proofs.block_lanes.BlockLanes.look.Given as goal

abbrev pub invariant-loop-place : goal.invariant-loop-place
invariant-loop-place g l = record { tables : tables_of l.self.sides ≡ l.lanes; so_far : LookedBelow l.place l.initial.self l.self }
