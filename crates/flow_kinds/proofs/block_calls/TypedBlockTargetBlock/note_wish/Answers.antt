use Rattle.flow_link.specs.TargetCalls.{TargetCall}
use Rattle.flow_kinds.proofs.KindsStay.{takes_stay, stays_of}
use Rattle.flow_kinds.proofs.block_calls.TypedBlockTargetBlock.note_wish.Goals as goal

pub invariant_of-self : goal.invariant_of-self
invariant_of-self g c =
    stays_of g.K.Kind.kind c.self.inside.block c.note_wish.new.self
    (takes_stay c.self.inside.block c.note_wish.new.self (TargetCall.noted c.args.origin c.args.answer) c.note_wish.ensures.takes) c.self.invariant
