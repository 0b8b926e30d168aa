use Rattle.std.proofs.Common.{◌≡◌, replicate}
use Rattle.flow_value.proofs.step.repeat.Given as goal

abbrev pub invariant-loop-made : goal.invariant-loop-made
invariant-loop-made l = l.values.items ≡ replicate l._made l.value
