use Rattle.std.proofs.Common.{◌∙◌}
use Rattle.flow_link.specs.BlockCalls.{BlockCall}
use Rattle.flow_kinds.proofs.KindsStay.{acts_stay}
use Rattle.flow_kinds.proofs.execution_calls.TypedExecutionDataflowBlock.fault.Goals as goal

pub invariant_of-self : goal.invariant_of-self
invariant_of-self g c =
    (acts_stay c.self.inside.execution.block c.fault.new.self.block (BlockCall.faulted c.args.number) c.fault.ensures.acts.0).kind
    ∙ c.self.invariant
