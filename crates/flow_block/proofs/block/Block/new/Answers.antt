use Rattle.flow_block.proofs.RoomFits.{fits_fresh}
use Rattle.flow_block.proofs.block.Block.new.Goals as goal

pub invariant_of-result : goal.invariant_of-result
invariant_of-result c = rw (c.in-Ok.ensures.0, c.in-Ok.ensures.1) (fits_fresh c.args.ports.items c.args.kind c.args.rules.items c.requires)
