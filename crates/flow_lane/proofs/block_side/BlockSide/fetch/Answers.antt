use Rattle.std.proofs.Common.{rules, ap, ◌∙◌, Some}
use Rattle.flow_lane.specs.Items.{JobState, as_job, as_result, state_of, state_in, ticket_of}
use Rattle.flow_lane.specs.Sides.{BlockOf, fetching}
use Rattle.flow_lane.specs.Views.{block_in, is_ready}
use Rattle.flow_lane.proofs.BlockStepsKeep.{fetches, holds_one, is_now, job_ready, quiet_now, written}
use Rattle.flow_lane.proofs.StandingsTell.{told_now}
use Rattle.flow_lane.proofs.block_side.BlockSide.fetch.Goals as goal

pub store-requires : goal.store-requires
store-requires g c =
    let ready = ap (λ (e : BlockOf (JobState g.row.W.Denot)). is_ready e.side.stage) c.self.view_is ∙ c.requires.ready in
    let stage = job_ready _ ready in
    (search rules, search rules, fetches as_job as_result state_of state_in _ _ c.self.inside.seat.me stage.0 _ c.self.invariant.me_is stage.1 c.word_of.ensures)

pub exchange-requires : goal.exchange-requires
exchange-requires g c =
    let told = c.store.ensures.2 in
    (search rules, (Some (as_result told.0), holds_one _ _ _ told.2))

pub invariant_of-self : goal.invariant_of-self
invariant_of-self g c =
    let told = c.store.ensures.2 in
    let side = fetching (state_in told.0) (block_in c.self.inside.seat.me.0) in
    let now = written _ _ _ _ _ told.2 c.exchange.ensures.3 in record {
      words = search rules;
      slots = search rules;
      me_is = is_now _ side now;
      quiet = quiet_now _ side _ now tt;
      told = told_now ticket_of _ side _ _ now (search rules);
    }
