use Rattle.std.proofs.Common.{◌<◌, length, subst, sym, arith}
use Rattle.flow_block.specs.Node.{NodeState}
use Rattle.flow_block.proofs.MarksFit.{due_unprepared}
use Rattle.flow_block.proofs.node.Node.forget_answer.Goals as goal

pub invariant_of-self : goal.invariant_of-self
invariant_of-self c =
    let here = subst (λ (node : NodeState). c.args.port < length node.block.ports) (sym c.self.view_is) c.requires in
    rw c.forget_answer.ensures (omega (arith, c.self.invariant, due_unprepared c.args.port c.self.inside.block here))
