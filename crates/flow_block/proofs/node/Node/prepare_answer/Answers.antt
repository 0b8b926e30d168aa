use Rattle.std.proofs.Common.{◌<◌, length, subst, sym, arith}
use Rattle.flow_block.specs.Node.{NodeState}
use Rattle.flow_block.proofs.MarksFit.{due_prepared}
use Rattle.flow_block.proofs.node.Node.prepare_answer.Goals as goal

pub invariant_of-self-2 : goal.invariant_of-self-2
invariant_of-self-2 c =
    let here = subst (λ (node : NodeState). c.args.port < length node.block.ports) (sym c.self.view_is) c.requires in
    rw c.in_ok-prepare_answer.ensures.done (omega (arith, c.in_ok-reserve_mark.ensures.room, due_prepared c.args.port c.self.inside.block here))
