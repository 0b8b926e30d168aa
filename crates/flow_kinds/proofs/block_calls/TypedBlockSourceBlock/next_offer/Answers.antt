use Rattle.flow_kinds.proofs.KindsStay.{offer_stays, stays_of}
use Rattle.flow_kinds.proofs.block_calls.TypedBlockSourceBlock.next_offer.Goals as goal

pub invariant_of-self : goal.invariant_of-self
invariant_of-self g c =
    stays_of g.K.Kind.kind c.self.inside.block c.next_offer.new.self
    (offer_stays c.self.inside.block c.next_offer.new.self c.next_offer.result c.next_offer.ensures.gives c.next_offer.ensures.kept) c.self.invariant
