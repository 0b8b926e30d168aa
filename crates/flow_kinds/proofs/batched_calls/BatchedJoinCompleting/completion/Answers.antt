use Rattle.flow_kinds.proofs.BlockStays.{settle_stays}
use Rattle.flow_kinds.proofs.DueMessages.{stays_fit}
use Rattle.flow_kinds.proofs.batched_calls.BatchedJoinCompleting.completion.Goals as goal

pub invariant_of-self : goal.invariant_of-self
invariant_of-self c =
    let inside = c.self.inside in
    stays_fit inside.block c.completion.new.self inside.order c.self.invariant
    (settle_stays inside.block c.completion.new.self c.completion.ensures.learns)
