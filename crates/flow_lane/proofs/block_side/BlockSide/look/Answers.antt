use Rattle.std.proofs.Common.{rules, ap, sym, ◌∙◌, Some}
use Rattle.flow_lane.specs.Items.{as_job, as_result, state_of, state_in, ticket_of}
use Rattle.flow_lane.proofs.BlockStepsKeep.{looks, looked_is, look_leaves, look_tells, looked_quiet}
use Rattle.flow_lane.proofs.StandingsTell.{looked_told}
use Rattle.flow_lane.proofs.block_side.BlockSide.look.Goals as goal

pub load-requires : goal.load-requires
load-requires g c = (search rules, search rules, looks as_job as_result state_of state_in _ _ _ c.self.invariant.me_is)

pub invariant_of-self : goal.invariant_of-self
invariant_of-self g c = record {
  words = search rules;
  slots = search rules;
  me_is = looked_is _ _ c.load.ensures.2.0 c.self.invariant.me_is c.load.ensures.2.2;
  quiet = looked_quiet c.self.inside.seat.me _ c.load.ensures.2.0 c.self.invariant.quiet c.load.ensures.2.2;
  told = looked_told ticket_of c.self.inside.seat.me _ c.load.ensures.2.0 c.phase_of-phase.result _ c.self.inside.standing c.self.invariant.told c.load.ensures.2.1 c.phase_of-phase.ensures c.load.ensures.2.2 ∙ ap Some (sym c.looked_at-self-inside.ensures);
}

pub returns-clause-found : goal.returns-clause-found
returns-clause-found g c = let told = c.load.ensures.2 in look_tells _ c.self.inside.seat.me _ _ _ _ told.3 told.1 c.phase_of-phase.ensures c.self.view_is

pub returns-clause-stands : goal.returns-clause-stands
returns-clause-stands g c = let told = c.load.ensures.2 in look_leaves c.self.inside.seat.me _ _ _ _ c.self.invariant.quiet told.3 told.1 c.phase_of-phase.ensures told.2
