use denote.Param.{param}
use Rattle.flow_task.proofs.TasksCross.{exit_row}
use Rattle.flow_task.proofs.laws.exits_cross.Goals as goal

pub returns : goal.returns
returns g c = exit_row (param 0 g.row.W) g.W.Runs g.W.PartialEq c.exit_ends_cross.ensures c.link_ends_cross.ensures.target
