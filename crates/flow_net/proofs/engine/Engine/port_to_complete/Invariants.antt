use Rattle.std.proofs.Common.{◌≡◌, ℕ, ◌<◌, false}
use Rattle.flow_block.specs.Peeks.{may_complete}
use Rattle.flow_core.specs.State.{node_at}
use Rattle.flow_net.proofs.engine.Engine.port_to_complete.Given as goal

-- no port before this one would complete
abbrev pub invariant-loop-port : goal.invariant-loop-port
invariant-loop-port g l = (p : ℕ) → p < l.port → may_complete p (node_at l.self.parts l.number).block ≡ false
