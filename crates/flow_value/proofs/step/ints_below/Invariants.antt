use Rattle.std.proofs.Common.{◌≡◌}
use Rattle.flow_value.specs.Step.{ints_below}
use Rattle.flow_value.proofs.step.ints_below.Given as goal

abbrev pub invariant-loop-number : goal.invariant-loop-number
invariant-loop-number l = l.values.items ≡ ints_below l.number
