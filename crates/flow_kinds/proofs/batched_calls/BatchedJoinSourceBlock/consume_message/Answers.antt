use Rattle.flow_kinds.proofs.BlockStays.{give_stays}
use Rattle.flow_kinds.proofs.DueMessages.{stays_fit}
use Rattle.flow_kinds.proofs.batched_calls.BatchedJoinSourceBlock.consume_message.Goals as goal

pub invariant_of-self : goal.invariant_of-self
invariant_of-self c =
    let inside = c.self.inside in
    stays_fit inside.block c.consume_message.new.self inside.order c.self.invariant
    (give_stays inside.block c.consume_message.new.self c.args.link c.args.header c.consume_message.ensures.gives.1)
