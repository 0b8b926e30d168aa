use Rattle.std.proofs.Common.{◌<◌, length, subst, sym, arith}
use Rattle.flow_block.specs.Block.{port_at}
use Rattle.flow_block.specs.Node.{NodeState}
use Rattle.flow_block.proofs.MarksFit.{due_refuses}
use Rattle.flow_block.proofs.node.Node.refuse.Goals as goal

pub invariant_of-self : goal.invariant_of-self
invariant_of-self c =
    let here = subst (λ (node : NodeState). c.args.port < length node.block.ports) (sym c.self.view_is) c.requires.port in
    let there = subst (λ (node : NodeState). c.args.place < length (port_at c.args.port node.block).ends) (sym c.self.view_is) c.requires.place in
    rw c.refuse.ensures (omega (arith, c.self.invariant, due_refuses c.args.port c.self.inside.block here c.args.place there))
