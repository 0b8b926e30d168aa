use Rattle.flow_block_law.proofs.NodesKept.{nodes_kept}
use Rattle.flow_block_law.proofs.laws.calls_keep_blocks_in_order.Goals as goal

pub returns : goal.returns
returns g c = nodes_kept _
