use Rattle.std.proofs.Common.{◌≡◌, ◌≤◌, ◌+◌, length, max}
use Rattle.flow_split.proofs.cut.cut_places.Given as goal

abbrev pub invariant-loop-number : goal.invariant-loop-number
invariant-loop-number l = (length l.places.items + 1 ≡ l.number) × (l.number ≤ max 1 l.parts)
