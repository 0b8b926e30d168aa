use Rattle.std.proofs.Common.{◌∙◌}
use Rattle.flow_link.specs.TargetCalls.{TargetCall}
use Rattle.flow_kinds.proofs.KindsStay.{takes_stay}
use Rattle.flow_kinds.proofs.execution_calls.TypedExecutionTargetBlock.hand_over.Goals as goal

pub invariant_of-self : goal.invariant_of-self
invariant_of-self g c =
    (takes_stay c.self.inside.execution.block c.hand_over.new.self.block (TargetCall.handed c.args.origin c.args.header c.args.parcel) c.hand_over.ensures.takes.0).kind
    ∙ c.self.invariant
