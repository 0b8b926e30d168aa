use Rattle.std.proofs.Common.{ℕ, ◌<◌}
use Rattle.flow_run.specs.Split.{IsCut}
use Rattle.flow_run.proofs.split.cut_place.Given as goal

-- no line is exactly `%%` so far
abbrev pub invariant-loop-at : goal.invariant-loop-at
invariant-loop-at l = (i : ℕ) → i < l.at → IsCut l.text i → ⊥
