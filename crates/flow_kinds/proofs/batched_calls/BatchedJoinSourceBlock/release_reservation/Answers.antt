use Rattle.flow_kinds.proofs.BlockStays.{release_stays}
use Rattle.flow_kinds.proofs.DueMessages.{stays_fit}
use Rattle.flow_kinds.proofs.batched_calls.BatchedJoinSourceBlock.release_reservation.Goals as goal

pub invariant_of-self : goal.invariant_of-self
invariant_of-self c =
    let inside = c.self.inside in
    stays_fit inside.block c.release_reservation.new.self inside.order c.self.invariant
    (release_stays inside.block c.release_reservation.new.self c.args.link c.args.header c.release_reservation.ensures.gives)
