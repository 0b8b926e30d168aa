use Rattle.flow_kinds.proofs.BlockStays.{fault_stays}
use Rattle.flow_kinds.proofs.JoinFits.{stays_fit}
use Rattle.flow_kinds.proofs.reserving_calls.ReservingJoinDataflowBlock.fault.Goals as goal

pub invariant_of-self : goal.invariant_of-self
invariant_of-self c =
    let inside = c.self.inside in
    stays_fit inside.block c.fault.new.self inside.round c.self.invariant
    (fault_stays inside.block c.fault.new.self c.args.number c.fault.ensures.acts)
