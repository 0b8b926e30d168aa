use Rattle.std.proofs.Common.{◌≡◌, ℕ, ◌<◌, false}
use Rattle.flow_block.specs.Traits.{wishes_at}
use Rattle.flow_block.proofs.by_link.wishing_port.Given as goal

-- no earlier port would consume an offer
abbrev pub invariant-loop-port : goal.invariant-loop-port
invariant-loop-port l = (p : ℕ) → p < l.port → wishes_at l.ports p ≡ false
