use Rattle.std.proofs.Common.{length, refl, ap, ◌∙◌, arith}
use Rattle.flow_lane.specs.BlockLanes.{LanesState}
use Rattle.flow_lane.proofs.LanesEnded.{all_ended, ended_next}
use Rattle.flow_lane.proofs.job_lanes.JobLanes.end.Goals as goal

pub loop-place-init : goal.loop-place-init
loop-place-init g c = refl

pub loop-place-preserved : goal.loop-place-preserved
loop-place-preserved g c =
    ended_next c.loop-place.place c.args.self.now c.loop-place.self c.end_at.new.self
    (let long = ap (λ (l : LanesState g.row.W.Denot). length l.sides) c.self.view_is in omega (arith, long)) c.loop-place.invariant c.end_at.ensures

pub returns-clause-ended : goal.returns-clause-ended
returns-clause-ended g c = c.loop-place.invariant ∙ all_ended c.loop-place.place c.args.self.now
    (let long = ap (λ (l : LanesState g.row.W.Denot). length l.sides) c.self.view_is in omega (arith, long))
