use Rattle.std.proofs.Common.{ℕ, ◌<◌}
use Rattle.flow_core.specs.State.{node_at}
use Rattle.flow_moves.specs.Statements.{HasNothingToDo}
use Rattle.flow_net.proofs.engine.Engine.event_at_blocks.Given as goal

abbrev pub invariant-loop-number : goal.invariant-loop-number
invariant-loop-number g l = (k : ℕ) → k < l.number → HasNothingToDo (node_at l.self.parts k).block
