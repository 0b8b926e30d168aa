use denote.Param.{param}
use Rattle.flow_task.proofs.TasksCross.{entry_row, input_row}
use Rattle.flow_task.proofs.laws.entries_cross.Goals as goal

pub returns : goal.returns
returns g c =
    let W = param 0 g.row.W in
    let w = g.W.Runs in
    let e = g.W.PartialEq in
    entry_row W w e (input_row W w e c.inputs_cross.ensures c.link_ends_cross.ensures.source) c.parcels_cross.ensures
