use Rattle.std.proofs.Common.{◌∙◌}
use Rattle.std.proofs.lemmas.Result.{err_from_is_err_and}
use Rattle.flow_value.proofs.ResultsGrow.{one_more_step, fault_at_step, all_applied}
use Rattle.flow_value.proofs.steps.run_in_turn.Goals as goal

pub returns-in_err-next : goal.returns-in_err-next
returns-in_err-next c =
    let p = err_from_is_err_and c.from_residual.result c.from_residual.ensures.1 in
    rw (p.1, p.2) (λ not_memory.
    c.loop-step.invariant
    ∙ fault_at_step c.args.steps.now c.loop-step.step-index c.loop-step.made c.in_err-next.field-0.0 c.loop-step-test.true
    (c.in_err-next.ensures not_memory))

pub loop-step-preserved : goal.loop-step-preserved
loop-step-preserved c =
    c.loop-step.invariant
    ∙ one_more_step c.args.steps.now c.loop-step.step-index c.loop-step.made c.in-One.next c.loop-step-test.true
    (rw c.in-One.is at c.in_ok-next.ensures)

pub returns : goal.returns
returns c = c.loop-step.invariant ∙ all_applied c.args.steps.now c.loop-step.step-index c.loop-step.made c.loop-step-test.false
