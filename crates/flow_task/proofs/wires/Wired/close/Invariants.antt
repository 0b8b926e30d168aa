use Rattle.std.proofs.Common.{◌≡◌, ℕ, ◌<◌, ◌≤◌, length, get_or, take, slice_index_or}
use Rattle.flow_link.specs.LinkOk.{LinkOk}
use Rattle.flow_wire.specs.Ends.{SourceOf, TargetOf}
use Rattle.flow_task.specs.Wired.{AreSeated, idle}
use Rattle.flow_task.proofs.wires.Wired.close.Given as goal

-- the first wires are left, and the links of the others are back
abbrev pub invariant-loop-wire : goal.invariant-loop-wire
invariant-loop-wire l =
    let n = length l.wires.items in
    let s = l.fn.self.sources.items in
    let t = l.fn.self.targets.items in
    AreSeated l.wires.items l.sources.items l.targets.items
    × ((l.sources.items ≡ take n s)
    × ((l.targets.items ≡ take n t)
    × ((length l.lines.items ≡ length l.fn.lines.items)
    × ((n ≤ length l.fn.self.wires.items)
    × (((k : ℕ) (d : SourceOf) (e : TargetOf) → n ≤ k → k < length l.fn.self.wires.items
    → LinkOk (slice_index_or s k d).side.facts (get_or l.lines.items k idle).phase (get_or l.lines.items k idle).slot
    (slice_index_or s k d).side.view (slice_index_or t k e).side.view)
    × ((k : ℕ) → length l.fn.self.wires.items ≤ k → get_or l.lines.items k idle ≡ get_or l.fn.lines.items k idle))))))

abbrev pub decreases-loop-wire : goal.decreases-loop-wire
decreases-loop-wire l = length l.wires.items
