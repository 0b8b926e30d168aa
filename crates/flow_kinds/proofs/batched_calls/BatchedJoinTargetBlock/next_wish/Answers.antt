use Rattle.flow_kinds.proofs.DueMessages.{wish_fits}
use Rattle.flow_kinds.proofs.batched_calls.BatchedJoinTargetBlock.next_wish.Goals as goal

pub invariant_of-self : goal.invariant_of-self
invariant_of-self c = wish_fits c.self.inside.block c.next_wish.new.self c.self.inside.order c.self.invariant c.next_wish.ensures.takes.1
