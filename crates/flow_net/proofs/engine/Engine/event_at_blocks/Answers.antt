use Rattle.std.proofs.Common.{rules, ℕ}
use Rattle.flow_core.specs.State.{node_at}
use Rattle.flow_moves.specs.Statements.{HasNothingToDo}
use Rattle.flow_net.proofs.FindersTell.{one_more}
use Rattle.flow_net.proofs.engine.Engine.event_at_blocks.Goals as goal

pub loop-number-preserved : goal.loop-number-preserved
loop-number-preserved g c =
    one_more (λ (k : ℕ). HasNothingToDo (node_at c.args.self.now.parts k).block) c.loop-number.number c.loop-number.invariant
    (search rules)
