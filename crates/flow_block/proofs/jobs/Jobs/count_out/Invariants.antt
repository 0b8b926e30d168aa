use Rattle.std.proofs.Common.{◌≡◌, ◌+◌, ◌-◌, ◌^◌, ◌<◌, ◌∷◌, length, drop, min, Some}
use Rattle.flow_block.specs.Jobs.{comes_out}
use Rattle.flow_block.proofs.jobs.Jobs.count_out.Given as goal

-- what is counted, and what comes out from this place on
abbrev pub invariant-loop-place : goal.invariant-loop-place
invariant-loop-place l = record {
  all : min (l.total + length (comes_out (drop l.place l.self.slots))) (2 ^ 64 - 1)
      ≡ min (length (comes_out (Some l.answer ∷ drop 1 l.self.slots))) (2 ^ 64 - 1);
  small : l.total < 2 ^ 64;
}
