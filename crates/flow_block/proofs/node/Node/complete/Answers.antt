use Rattle.std.proofs.Common.{◌<◌, length, subst, sym, arith}
use Rattle.flow_block.specs.Node.{NodeState}
use Rattle.flow_block.proofs.MarksFit.{due_completed}
use Rattle.flow_block.proofs.node.Node.complete.Goals as goal

pub invariant_of-self-2 : goal.invariant_of-self-2
invariant_of-self-2 c =
    let here = subst (λ (node : NodeState). c.args.port < length node.block.ports) (sym c.self.view_is) c.requires in
    rw c.close_port.ensures
    (omega (arith, c.in_ok-reserve_mark.ensures.room, c.push_reserved.ensures.len, c.push_reserved.ensures.capacity, due_completed c.args.port c.self.inside.block here))
