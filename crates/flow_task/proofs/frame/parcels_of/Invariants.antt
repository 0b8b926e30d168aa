use Rattle.std.proofs.Common.{◌≡◌, ◌≤◌, length, take, vec_capacity}
use Rattle.flow_task.proofs.frame.parcels_of.Given as goal

-- the parcels of the first values are made
abbrev pub invariant-loop-value : goal.invariant-loop-value
invariant-loop-value l = (l.parcels.items ≡ take l.value-index l.fn.values) × (length l.fn.values ≤ vec_capacity l.parcels)
