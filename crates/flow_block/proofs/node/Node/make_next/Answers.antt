use Rattle.std.proofs.Common.{arith}
use Rattle.flow_block.proofs.MarksOfNext.{due_next}
use Rattle.flow_block.proofs.node.Node.make_next.Goals as goal

pub invariant_of-self-2 : goal.invariant_of-self-2
invariant_of-self-2 c =
    rw c.in_ok-make_next.ensures.done (omega (arith, c.self.invariant, due_next c.self.inside.block))
