use denote.Param.{param}
use Rattle.flow_task.proofs.TasksCross.{block_row, input_row, lane_row, laned_row, task_row}
use Rattle.flow_task.proofs.laws.tasks_cross.Goals as goal

pub returns : goal.returns
returns g c =
    let W = param 0 g.row.W in
    let w = g.W.Runs in
    let d = g.W.Eq in
    let e = g.W.PartialEq in
    let ends = c.link_ends_cross.ensures in
    let lanes = c.job_lanes_cross.ensures in
    let block = block_row W w e c.nodes_cross.ensures ends.source ends.target c.notes_cross.ensures in
    task_row W w e d (laned_row W w e d block lanes.block) (input_row W w e c.inputs_cross.ensures ends.source) (lane_row W w e d lanes.lane)
