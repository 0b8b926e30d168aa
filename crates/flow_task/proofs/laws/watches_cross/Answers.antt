use denote.Param.{param}
use Rattle.flow_task.proofs.TasksCross.{watch_row}
use Rattle.flow_task.proofs.laws.watches_cross.Goals as goal

pub returns : goal.returns
returns g c = watch_row (param 0 g.row.W) g.W.Runs g.W.PartialEq c.notes_cross.ensures
