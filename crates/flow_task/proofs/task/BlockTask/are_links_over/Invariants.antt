use Rattle.std.proofs.Common.{◌≡◌, ℕ, ◌<◌, true}
use Rattle.flow_task.specs.Turns.{is_port_over}
use Rattle.flow_task.proofs.task.BlockTask.are_links_over.Given as goal

-- so many ports are over
abbrev pub invariant-loop-port : goal.invariant-loop-port
invariant-loop-port g l = (k : ℕ) → k < l.port → is_port_over l.self.node k ≡ true
