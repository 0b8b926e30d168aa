use Rattle.std.proofs.Common.{rules, ap, ◌∙◌}
use Rattle.flow_lane.specs.Sides.{LaneOf}
use Rattle.flow_lane.specs.Items.{JobState, as_job, as_result, state_of, state_in}
use Rattle.flow_lane.specs.Views.{LaneStage, lane_in}
use Rattle.flow_lane.proofs.BlockStepsKeep.{written}
use Rattle.flow_lane.proofs.LaneStepsKeep.{finishes, me_at}
use Rattle.flow_lane.proofs.lane_side.LaneSide.finish.Goals as goal

pub store-requires : goal.store-requires
store-requires g c =
    let stage = ap (λ (e : LaneOf (JobState g.row.W.Denot)). e.side.stage) c.self.view_is ∙ c.requires.working in
    let now = written _ _ _ _ _ (me_at c.self.inside.seat.me (LaneStage.working (state_in c.args.done)) c.self.invariant.me_is stage) c.exchange.ensures.3 in
    (search rules, search rules, finishes as_job as_result state_of state_in _ _ _ (lane_in c.self.inside.seat.me.0) c.args.done _ now stage c.word_of.ensures)
