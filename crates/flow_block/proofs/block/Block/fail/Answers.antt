use Rattle.flow_block.proofs.RoomFits.{fits_failed}
use Rattle.flow_block.proofs.block.Block.fail.Goals as goal

pub invariant_of-self : goal.invariant_of-self
invariant_of-self c = rw c.fail_ports.ensures (fits_failed c.self.invariant)
