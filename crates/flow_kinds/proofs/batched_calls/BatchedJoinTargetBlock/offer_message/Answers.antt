use Rattle.flow_kinds.proofs.DueMessages.{offered_fits}
use Rattle.flow_kinds.proofs.batched_calls.BatchedJoinTargetBlock.offer_message.Goals as goal

pub invariant_of-self-2 : goal.invariant_of-self-2
invariant_of-self-2 c =
    offered_fits c.self.inside.block c.offer_message.new.self c.self.inside.order c.reserve_arrival.new.order c.args.origin c.args.header
    c.args.may_postpone c.offer_message.result c.self.invariant c.in_ok-reserve_arrival.ensures.ports c.in_ok-reserve_arrival.ensures.room
    c.offer_message.ensures.takes c.offer_message.ensures.kept
