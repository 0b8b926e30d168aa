use Rattle.std.proofs.Common.{◌≡◌, ℕ, ◌<◌, true}
use Rattle.flow_intake.specs.Port.{stage_at}
use Rattle.flow_block.specs.Block.{port_at}
use Rattle.flow_task.specs.Turns.{is_in_over}
use Rattle.flow_task.proofs.task.BlockTask.is_port_over.Given as goal

-- so many links into the port are over
abbrev pub invariant-loop-place : goal.invariant-loop-place
invariant-loop-place g l = (k : ℕ) → k < l.place → is_in_over (stage_at k (port_at l.port l.self.node.block)) ≡ true
