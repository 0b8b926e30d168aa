use Rattle.std.proofs.Common.{rules, ap, ◌∙◌, refl}
use Rattle.flow_lane.specs.Items.{JobState, as_job, as_result, state_of, state_in, ticket_of}
use Rattle.flow_lane.specs.Sides.{BlockOf, clearing}
use Rattle.flow_lane.specs.Views.{block_in, has_in_hand}
use Rattle.flow_lane.proofs.BlockStepsKeep.{clears, is_now, job_in_hand, quiet_now}
use Rattle.flow_lane.proofs.StandingsTell.{told_now}
use Rattle.flow_lane.proofs.block_side.BlockSide.clear.Goals as goal

pub store-requires : goal.store-requires
store-requires g c =
    let held = ap (λ (e : BlockOf (JobState g.row.W.Denot)). has_in_hand e.side.stage) c.self.view_is ∙ c.requires.in_hand in
    let stage = job_in_hand _ held in
    (search rules, search rules, clears as_job as_result state_of state_in _ _ c.self.inside.seat.me stage.0 _ c.self.invariant.me_is stage.1 c.word_of.ensures)

pub invariant_of-self : goal.invariant_of-self
invariant_of-self g c = record {
  words = search rules;
  slots = search rules;
  me_is = is_now _ (clearing (block_in c.self.inside.seat.me.0)) c.store.ensures.2;
  quiet = quiet_now _ (clearing (block_in c.self.inside.seat.me.0)) _ c.store.ensures.2 tt;
  told = told_now ticket_of _ (clearing (block_in c.self.inside.seat.me.0)) _ _ c.store.ensures.2 refl;
}
