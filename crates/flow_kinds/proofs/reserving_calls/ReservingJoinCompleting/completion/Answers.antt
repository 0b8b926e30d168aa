use Rattle.flow_kinds.proofs.BlockStays.{settle_stays}
use Rattle.flow_kinds.proofs.JoinFits.{stays_fit}
use Rattle.flow_kinds.proofs.reserving_calls.ReservingJoinCompleting.completion.Goals as goal

pub invariant_of-self : goal.invariant_of-self
invariant_of-self c =
    let inside = c.self.inside in
    stays_fit inside.block c.completion.new.self inside.round c.self.invariant
    (settle_stays inside.block c.completion.new.self c.completion.ensures.learns)
