use Rattle.std.proofs.Common.{◌≡◌, ℕ, ◌<◌, ◌≤◌, length, get_or, vec_capacity}
use Rattle.flow_task.specs.Wired.{AreWired, IsReady, idle}
use Rattle.flow_task.proofs.wires.make_wires.Given as goal

abbrev pub ghost-add : goal.ghost-add
ghost-add g a = g.starts (length a.self.now.wires.items)

-- so many links have wires, and there is room for the rest
abbrev pub invariant-loop-id : goal.invariant-loop-id
invariant-loop-id g l =
    AreWired g.starts l.id l.wired.wires.items l.wired.sources.items l.wired.targets.items
    × ((length l.lines.items ≡ length l.fn.lines.items)
    × (((k : ℕ) → k < length l.lines.items → l.id ≤ k → IsReady (g.starts k) (get_or l.lines.items k idle))
    × ((length l.fn.lines.items ≤ vec_capacity l.wired.wires)
    × ((length l.fn.lines.items ≤ vec_capacity l.wired.sources)
    × (length l.fn.lines.items ≤ vec_capacity l.wired.targets)))))
