use Rattle.std.proofs.Common.{rules, ap, ◌∙◌, refl}
use Rattle.flow_lane.specs.Items.{JobState, as_job, as_result, state_of, state_in, ticket_of}
use Rattle.flow_lane.specs.Sides.{BlockOf, ending}
use Rattle.flow_lane.specs.Views.{block_in}
use Rattle.flow_lane.proofs.BlockStepsKeep.{ends, ended_is, quiet_now}
use Rattle.flow_lane.proofs.StandingsTell.{told_now}
use Rattle.flow_lane.proofs.block_side.BlockSide.end.Goals as goal

pub store-requires : goal.store-requires
store-requires g c =
    let stage = ap (λ (e : BlockOf (JobState g.row.W.Denot)). e.side.stage) c.self.view_is ∙ c.requires.free in
    (search rules, search rules, ends as_job as_result state_of state_in _ _ c.self.inside.seat.me _ c.self.invariant.me_is stage c.word_of.ensures)

pub invariant_of-self : goal.invariant_of-self
invariant_of-self g c =
    let stage = ap (λ (e : BlockOf (JobState g.row.W.Denot)). e.side.stage) c.self.view_is ∙ c.requires.free in record {
      words = search rules;
      slots = search rules;
      me_is = ended_is c.self.inside.seat.me _ c.self.invariant.me_is stage c.store.ensures.2;
      quiet = quiet_now _ (ending (block_in c.self.inside.seat.me.0)) _ c.store.ensures.2 tt;
      told = told_now ticket_of _ (ending (block_in c.self.inside.seat.me.0)) _ _ c.store.ensures.2 refl;
    }
