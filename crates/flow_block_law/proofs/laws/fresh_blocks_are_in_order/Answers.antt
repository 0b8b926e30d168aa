use Rattle.flow_block_law.proofs.FreshNodes.{fresh_in_order}
use Rattle.flow_block_law.proofs.laws.fresh_blocks_are_in_order.Goals as goal

pub returns : goal.returns
returns g c = fresh_in_order _
