use Rattle.flow_block.proofs.RoomFits.{fits_closed}
use Rattle.flow_block.proofs.block.Block.stop.Goals as goal

pub invariant_of-self : goal.invariant_of-self
invariant_of-self c = rw c.close_ports.ensures (fits_closed c.self.invariant)
