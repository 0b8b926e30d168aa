use denote.Param.{param}
use Rattle.flow_crew.proofs.ItemsCross.{item_row}
use Rattle.flow_crew.proofs.laws.items_cross.Goals as goal

pub returns : goal.returns
returns g c = item_row (param 0 g.row.W) (param 1 g.row.J) g.W.Runs g.W.PartialEq g.W.Eq g.J.Round c.tasks_cross.ensures
