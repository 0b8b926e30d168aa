use Rattle.std.proofs.Common.{arith}
use Rattle.flow_link.specs.declared.trace.Outcome.TheVariants.{Done}
use Rattle.flow_block.proofs.MarksFit.{due_stopped}
use Rattle.flow_block.proofs.node.Node.finish.Goals as goal

pub invariant_of-self-2 : goal.invariant_of-self-2
invariant_of-self-2 c =
    rw c.stop.ensures
    (omega (arith, c.in_ok-reserve_mark.ensures.room, c.push_reserved.ensures.len, c.push_reserved.ensures.capacity, due_stopped Done c.self.inside.block))
