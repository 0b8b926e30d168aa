use Rattle.std.proofs.Common.{◌≡◌, ℕ, ◌<◌, false}
use Rattle.flow_kinds.specs.Wishes.{wishes_at}
use Rattle.flow_kinds.proofs.wishes.wishing_port.Given as goal

-- at no earlier port something is to be done
abbrev pub invariant-loop-port : goal.invariant-loop-port
invariant-loop-port l = (p : ℕ) → p < l.port → wishes_at l.failing l.round l.block.ports p ≡ false
