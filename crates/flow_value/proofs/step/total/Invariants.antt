use Rattle.std.proofs.Common.{◌≡◌, ◌*◌, List, Some, take, ℤ, pos, neg_ℤ, ◌≤ℤ◌}
use Rattle.flow_value.specs.Step.{numbers_of, total_of}
use Rattle.flow_value.proofs.step.total.Given as goal

abbrev pub invariant-loop-item : goal.invariant-loop-item
invariant-loop-item l =
    ((ns : List ℤ) × (numbers_of (take l.item-index l.items) ≡ Some ns) × (l.total ≡ total_of ns))
    × (neg_ℤ (pos (9223372036854775808 * l.item-index)) ≤ℤ l.total)
    × (l.total ≤ℤ pos (9223372036854775808 * l.item-index))
