use denote.Param.{param}
use Rattle.flow_lane.proofs.EndsCross.{end_row, lanes_row}
use Rattle.flow_lane.proofs.laws.ends_cross.Goals as goal

pub returns-clause-block : goal.returns-clause-block
returns-clause-block g c = lanes_row (param 0 g.row.W) g.W.Runs g.W.PartialEq c.sides_cross.ensures.block c.results_cross.ensures.result

pub returns-clause-lane : goal.returns-clause-lane
returns-clause-lane g c = end_row (param 0 g.row.W) g.W.Runs g.W.PartialEq c.sides_cross.ensures.lane c.results_cross.ensures.job
