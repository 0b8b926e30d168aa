use Rattle.std.proofs.Common.{◌≡◌, ℕ, ◌<◌, false}
use Rattle.flow_block.specs.Block.{port_in}
use Rattle.flow_block.specs.Traits.{has_link}
use Rattle.flow_block.proofs.by_link.port_into.Given as goal

-- into no earlier port the link leads
abbrev pub invariant-loop-port : goal.invariant-loop-port
invariant-loop-port l = (p : ℕ) → p < l.port → has_link l.link (port_in l.ports p) ≡ false
