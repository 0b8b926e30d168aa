use Rattle.flow_kinds.proofs.BlockStays.{complete_stays}
use Rattle.flow_kinds.proofs.JoinFits.{stays_fit}
use Rattle.flow_kinds.proofs.reserving_calls.ReservingJoinDataflowBlock.complete.Goals as goal

pub invariant_of-self : goal.invariant_of-self
invariant_of-self c =
    let inside = c.self.inside in
    stays_fit inside.block c.complete.new.self inside.round c.self.invariant
    (complete_stays inside.block c.complete.new.self c.args.port c.complete.ensures.acts)
