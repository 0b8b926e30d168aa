use Rattle.std.proofs.Common.{◌≡◌, ℕ, ◌<◌, false}
use Rattle.flow_block.specs.Peeks.{may_complete}
use Rattle.flow_task.proofs.task.BlockTask.port_to_complete.Given as goal

-- no port before this one would complete
abbrev pub invariant-loop-port : goal.invariant-loop-port
invariant-loop-port g l = (p : ℕ) → p < l.port → may_complete p l.self.node.block ≡ false
