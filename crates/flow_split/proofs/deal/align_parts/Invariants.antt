use Rattle.std.proofs.Common.{◌≡◌, length}
use Rattle.flow_split.proofs.deal.align_parts.Given as goal

abbrev pub invariant-loop-part : goal.invariant-loop-part
invariant-loop-part l = length l.aligned.items ≡ l.part
