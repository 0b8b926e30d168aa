use Rattle.flow_task.proofs.NodesShare.{node_row}
use Rattle.flow_task.proofs.shared_laws.nodes_are_shared.Goals as goal

pub returns : goal.returns
returns c =
    node_row c.values_are_shared.ensures c.marks_are_shared.ensures c.intakes_are_shared.ensures c.outlets_are_shared.ensures
    c.spreads_are_shared.ensures
