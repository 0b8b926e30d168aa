use Rattle.std.proofs.Common.{◌≡◌, ◌+◌, ◌≤◌}
use Rattle.flow_task.proofs.Gaps.{Counted}
use Rattle.flow_task.proofs.missing.first_gap.Given as goal

-- those that were gone through have the numbers from the first one on
abbrev pub invariant-loop-part : goal.invariant-loop-part
invariant-loop-part g l =
    (l.expected ≡ l.fn.first + l.part-index) × ((l.expected ≤ l.fn.end) × Counted g.T.Numbered.says l.fn.first l.part-index l.parts)
