use Rattle.std.proofs.Common.{take}
use Rattle.flow_block.proofs.GroupsFit.{fits_group}
use Rattle.flow_block.proofs.block.Block.make_group.Goals as goal

pub invariant_of-self-2 : goal.invariant_of-self-2
invariant_of-self-2 c =
    rw (c.in_ok-put_rows.ensures.taken, c.in_ok-put_rows.ensures.there)
    (fits_group c.self.invariant c.self.inside.size (take c.self.inside.size c.args.order.now.ports) c.in-Ok.row)
