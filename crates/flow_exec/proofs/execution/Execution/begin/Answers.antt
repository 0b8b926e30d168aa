use Rattle.std.proofs.Common.{◌≡◌, true, sym, ◌∙◌}
use Rattle.flow_block.specs.Peeks.{may_begin}
use Rattle.flow_exec.proofs.ExecutionRuns.{begins_runs}
use Rattle.flow_exec.proofs.execution.Execution.begin.Goals as goal

pub invariant_of-self-2 : goal.invariant_of-self-2
invariant_of-self-2 g c =
    let may : may_begin c.self.inside.block ≡ true = sym c.may_begin.ensures ∙ c.if-not-may_begin.false in
    rw c.in_ok-begin.ensures.done (begins_runs c.self.inside.block may c.self.invariant)
