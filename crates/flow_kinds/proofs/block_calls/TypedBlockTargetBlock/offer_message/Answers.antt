use Rattle.flow_kinds.proofs.KindsStay.{answer_stays, stays_of}
use Rattle.flow_kinds.proofs.block_calls.TypedBlockTargetBlock.offer_message.Goals as goal

pub invariant_of-self : goal.invariant_of-self
invariant_of-self g c =
    stays_of g.K.Kind.kind c.self.inside.block c.offer_message.new.self
    (answer_stays c.self.inside.block c.offer_message.new.self c.args.origin c.args.header c.args.may_postpone c.offer_message.result c.offer_message.ensures.takes c.offer_message.ensures.kept) c.self.invariant
