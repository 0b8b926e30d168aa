use Rattle.std.proofs.Common.{arith}
use Rattle.flow_block.proofs.MarksFit.{due_sent}
use Rattle.flow_block.proofs.node.Node.send.Goals as goal

pub invariant_of-self-2 : goal.invariant_of-self-2
invariant_of-self-2 c =
    rw c.in_ok-value.ensures.sent
    (omega (arith, c.in_ok-reserve_mark.ensures.room, c.push_reserved.ensures.len, c.push_reserved.ensures.capacity, due_sent c.args.place c.self.inside.block))
