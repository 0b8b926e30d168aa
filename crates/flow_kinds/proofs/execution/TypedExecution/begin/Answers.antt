use Rattle.std.proofs.Common.{◌∙◌}
use Rattle.flow_kinds.proofs.WorkKinds.{begin_kind}
use Rattle.flow_kinds.proofs.execution.TypedExecution.begin.Goals as goal

pub invariant_of-self : goal.invariant_of-self
invariant_of-self g c =
    begin_kind c.self.inside.execution c.begin.new.self c.begin.result c.begin.ensures.done c.begin.ensures.nothing c.begin.ensures.kept
    ∙ c.self.invariant
