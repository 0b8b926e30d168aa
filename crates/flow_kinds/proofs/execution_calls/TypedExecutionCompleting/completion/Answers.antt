use Rattle.std.proofs.Common.{◌∙◌}
use Rattle.flow_kinds.proofs.KindsStay.{settles_stay}
use Rattle.flow_kinds.proofs.execution_calls.TypedExecutionCompleting.completion.Goals as goal

pub invariant_of-self : goal.invariant_of-self
invariant_of-self g c =
    (settles_stay c.self.inside.execution.block c.completion.new.self.block c.completion.ensures.learns.0).kind
    ∙ c.self.invariant
