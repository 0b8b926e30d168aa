use Rattle.flow_kinds.proofs.KindsStay.{settles_stay, stays_of}
use Rattle.flow_kinds.proofs.block_calls.TypedBlockCompleting.completion.Goals as goal

pub invariant_of-self : goal.invariant_of-self
invariant_of-self g c =
    stays_of g.K.Kind.kind c.self.inside.block c.completion.new.self
    (settles_stay c.self.inside.block c.completion.new.self c.completion.ensures.learns) c.self.invariant
