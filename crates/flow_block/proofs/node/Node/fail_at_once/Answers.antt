use Rattle.std.proofs.Common.{arith}
use Rattle.flow_block.proofs.MarksFit.{due_failed}
use Rattle.flow_block.proofs.node.Node.fail_at_once.Goals as goal

pub invariant_of-self-2 : goal.invariant_of-self-2
invariant_of-self-2 c =
    rw c.in_ok-fail_at_once.ensures.done (omega (arith, c.self.invariant, due_failed c.args.number c.self.inside.block))
