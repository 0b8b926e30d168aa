use Rattle.std.proofs.Common.{◌∙◌}
use Rattle.flow_kinds.proofs.WorkKinds.{offer_kind}
use Rattle.flow_kinds.proofs.execution_calls.TypedExecutionSourceBlock.next_offer.Goals as goal

pub invariant_of-self : goal.invariant_of-self
invariant_of-self g c =
    offer_kind c.self.inside.execution c.next_offer.new.self c.next_offer.result c.next_offer.ensures.gives c.next_offer.ensures.kept
    ∙ c.self.invariant
