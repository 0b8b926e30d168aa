use Rattle.flow_kinds.proofs.DueMessages.{note_fits}
use Rattle.flow_kinds.proofs.batched_calls.BatchedJoinTargetBlock.note_wish.Goals as goal

pub invariant_of-self : goal.invariant_of-self
invariant_of-self c =
    note_fits c.self.inside.block c.note_wish.new.self c.self.inside.order c.self.invariant c.args.origin c.args.answer c.note_wish.ensures.takes
