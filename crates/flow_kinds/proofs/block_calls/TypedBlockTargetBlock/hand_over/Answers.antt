use Rattle.flow_link.specs.TargetCalls.{TargetCall}
use Rattle.flow_kinds.proofs.KindsStay.{takes_stay, stays_of}
use Rattle.flow_kinds.proofs.block_calls.TypedBlockTargetBlock.hand_over.Goals as goal

pub invariant_of-self : goal.invariant_of-self
invariant_of-self g c =
    stays_of g.K.Kind.kind c.self.inside.block c.hand_over.new.self
    (takes_stay c.self.inside.block c.hand_over.new.self (TargetCall.handed c.args.origin c.args.header c.args.parcel) c.hand_over.ensures.takes) c.self.invariant
