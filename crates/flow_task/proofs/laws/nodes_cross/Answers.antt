use Rattle.flow_task.proofs.NodesCross.{node_row}
use Rattle.flow_task.proofs.laws.nodes_cross.Goals as goal

pub returns : goal.returns
returns c = node_row c.values_cross.ensures c.marks_cross.ensures c.intakes_cross.ensures c.outlets_cross.ensures c.spreads_cross.ensures
