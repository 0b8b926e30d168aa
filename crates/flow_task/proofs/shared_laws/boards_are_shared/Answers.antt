use denote.Param.{param}
use Rattle.flow_task.proofs.BoardsShare.{board_row, parts_row}
use Rattle.flow_task.proofs.shared_laws.boards_are_shared.Goals as goal

pub returns : goal.returns
returns g c =
    let W = param 0 g.row.W in
    let rest = parts_row W (record { shared = c.plans_are_shared.ensures.shared }) c.nodes_are_shared.ensures c.inputs_are_shared.ensures
    c.exit_ends_are_shared.ensures c.lines_are_shared.ensures c.routes_are_shared.ensures in
    board_row W rest c.wires_are_shared.ensures c.cells_are_shared.ensures
