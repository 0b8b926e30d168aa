use Rattle.std.proofs.Common.{rules, ap, ◌∙◌, Some}
use Rattle.flow_lane.specs.Items.{JobState, as_job, as_result, state_of, state_in}
use Rattle.flow_lane.specs.Sides.{LaneOf, opening}
use Rattle.flow_lane.specs.Views.{lane_in}
use Rattle.flow_lane.proofs.BlockStepsKeep.{holds_one, written}
use Rattle.flow_lane.proofs.LaneStepsKeep.{is_now, opens}
use Rattle.flow_lane.proofs.lane_side.LaneSide.open.Goals as goal

pub store-requires : goal.store-requires
store-requires g c =
    let stage = ap (λ (e : LaneOf (JobState g.row.W.Denot)). e.side.stage) c.self.view_is ∙ c.requires.arrived in
    (search rules, search rules, opens as_job as_result state_of state_in _ _ c.self.inside.seat.me _ c.self.invariant.me_is stage c.word_of.ensures)

pub exchange-requires : goal.exchange-requires
exchange-requires g c =
    let told = c.store.ensures.2 in
    (search rules, (Some (as_job told.0), holds_one _ _ _ told.1))

pub invariant_of-self : goal.invariant_of-self
invariant_of-self g c =
    let told = c.store.ensures.2 in record {
      words = search rules;
      slots = search rules;
      me_is = is_now _ (opening (state_of told.0) (lane_in c.self.inside.seat.me.0)) (written _ _ _ _ _ told.1 c.exchange.ensures.3);
    }
