use Rattle.flow_block_law.proofs.NodesAreStill.{nodes_are_still}
use Rattle.flow_block_law.proofs.NodesRest.{nodes_rest}
use Rattle.flow_block_law.proofs.laws.blocks_with_nothing_to_do_rest.Goals as goal

pub returns-clause-still : goal.returns-clause-still
returns-clause-still g c = nodes_are_still _

pub returns-clause-rest : goal.returns-clause-rest
returns-clause-rest g c = nodes_rest _
