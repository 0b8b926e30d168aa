use Rattle.std.proofs.Common.{◌≡◌}
use Rattle.flow_lane.proofs.LanesEnded.{ended_below}
use Rattle.flow_lane.proofs.job_lanes.JobLanes.end.Given as goal

abbrev pub invariant-loop-place : goal.invariant-loop-place
invariant-loop-place g l = l.self ≡ ended_below l.place l.initial.self
