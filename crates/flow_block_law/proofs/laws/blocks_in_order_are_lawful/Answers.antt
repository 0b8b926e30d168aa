use Rattle.flow_block_law.proofs.NodesAreLawful.{nodes_are_lawful}
use Rattle.flow_block_law.proofs.laws.blocks_in_order_are_lawful.Goals as goal

pub returns : goal.returns
returns g c = nodes_are_lawful _
