use Rattle.std.proofs.Common.{◌∙◌}
use Rattle.flow_kinds.proofs.WorkKinds.{answer_kind}
use Rattle.flow_kinds.proofs.execution_calls.TypedExecutionTargetBlock.offer_message.Goals as goal

pub invariant_of-self : goal.invariant_of-self
invariant_of-self g c =
    answer_kind c.self.inside.execution c.offer_message.new.self c.args.origin c.args.header c.args.may_postpone c.offer_message.result c.offer_message.ensures.takes c.offer_message.ensures.kept
    ∙ c.self.invariant
