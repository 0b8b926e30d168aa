use Rattle.std.proofs.Common.{◌≡◌, true, ◌<◌, length, subst, sym, arith}
use Rattle.flow_intake.specs.Port.{stage_at as port_stage}
use Rattle.flow_intake.specs.Calls.{is_postponed}
use Rattle.flow_block.specs.Block.{port_at}
use Rattle.flow_block.specs.Node.{NodeState}
use Rattle.flow_block.proofs.MarksFit.{due_asks}
use Rattle.flow_block.proofs.node.Node.ask.Goals as goal

pub invariant_of-self : goal.invariant_of-self
invariant_of-self c =
    let here = subst (λ (node : NodeState). c.args.port < length node.block.ports) (sym c.self.view_is) c.requires.port in
    let there = subst (λ (node : NodeState). c.args.place < length (port_at c.args.port node.block).ends) (sym c.self.view_is) c.requires.place in
    let postponed = subst (λ (node : NodeState). is_postponed (port_stage c.args.place (port_at c.args.port node.block)) ≡ true) (sym c.self.view_is) c.requires.postponed in
    rw c.ask.ensures (omega (arith, c.self.invariant, due_asks c.args.port c.self.inside.block here c.args.place there postponed))
