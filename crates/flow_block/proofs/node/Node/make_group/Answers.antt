use Rattle.std.proofs.Common.{arith}
use Rattle.flow_block.proofs.GroupsFit.{due_group}
use Rattle.flow_block.proofs.node.Node.make_group.Goals as goal

pub invariant_of-self-2 : goal.invariant_of-self-2
invariant_of-self-2 c =
    rw c.in_ok-make_group.ensures.done
    (omega (arith, c.self.invariant, due_group c.self.inside.block.size 0 c.note_first-grouped.new.order.ports c.self.inside.block))
