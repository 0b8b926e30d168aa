use denote.Param.{param}
use Rattle.flow_lane.proofs.JobLanesCross.{job_lane_row, job_lanes_row}
use Rattle.flow_lane.proofs.laws.job_lanes_cross.Goals as goal

pub returns-clause-block : goal.returns-clause-block
returns-clause-block g c =
    job_lanes_row (param 0 g.row.W) g.W.Runs g.W.Eq g.W.PartialEq c.lanes_cross.ensures.sent c.lanes_cross.ensures.shared c.type_bounds.send-W c.type_bounds.sync-W c.ends_cross.ensures.block

pub returns-clause-lane : goal.returns-clause-lane
returns-clause-lane g c =
    job_lane_row (param 0 g.row.W) g.W.Runs g.W.Eq g.W.PartialEq c.lanes_cross.ensures.sent c.lanes_cross.ensures.shared c.ends_cross.ensures.lane
