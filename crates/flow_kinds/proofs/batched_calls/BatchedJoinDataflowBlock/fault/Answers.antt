use Rattle.flow_kinds.proofs.BlockStays.{fault_stays}
use Rattle.flow_kinds.proofs.DueMessages.{stays_fit}
use Rattle.flow_kinds.proofs.batched_calls.BatchedJoinDataflowBlock.fault.Goals as goal

pub invariant_of-self : goal.invariant_of-self
invariant_of-self c =
    let inside = c.self.inside in
    stays_fit inside.block c.fault.new.self inside.order c.self.invariant
    (fault_stays inside.block c.fault.new.self c.args.number c.fault.ensures.acts)
