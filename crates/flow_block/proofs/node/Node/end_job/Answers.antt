use Rattle.std.proofs.Common.{arith}
use Rattle.flow_block.proofs.MarksFit.{due_ended}
use Rattle.flow_block.proofs.node.Node.end_job.Goals as goal

pub invariant_of-self-2 : goal.invariant_of-self-2
invariant_of-self-2 c =
    rw c.in_ok-end_job.ensures.done
    (omega (arith, c.self.invariant, due_ended c.args.ticket c.args.answer c.self.inside.block))
