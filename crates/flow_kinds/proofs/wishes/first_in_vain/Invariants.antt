use Rattle.std.proofs.Common.{◌≡◌, ℕ, ◌<◌, false}
use Rattle.flow_kinds.specs.Wishes.{asks_in_vain}
use Rattle.flow_kinds.proofs.wishes.first_in_vain.Given as goal

-- no earlier offer would be asked for in vain
abbrev pub invariant-loop-port : goal.invariant-loop-port
invariant-loop-port l = (p : ℕ) → p < l.port → asks_in_vain l.round l.block.ports p ≡ false
