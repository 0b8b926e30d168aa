use Rattle.std.proofs.Common.{arith}
use Rattle.std.proofs.lemmas.Result.{err_from_is_err_and}
use Rattle.flow_crew.proofs.RunsOn.{left_further, runs_further, runs_itself}
use Rattle.flow_crew.proofs.run.run_rounds.Goals as goal

pub loop-left-init : goal.loop-left-init
loop-left-init g c = (omega arith, runs_itself c.args.net)

pub returns-in_err-next-clause-left : goal.returns-in_err-next-clause-left
returns-in_err-next-clause-left g c =
    let p = err_from_is_err_and c.from_residual.result c.from_residual.ensures.1 in
    rw (p.1, p.2)
    (left_further g.W.Runs.meaning c.args.net c.loop-left.net c.in_err-next.field-0.0 c.loop-left.invariant.1 c.in_err-next.ensures.left)

pub returns-then-done-eq0-clause-runs_on : goal.returns-then-done-eq0-clause-runs_on
returns-then-done-eq0-clause-runs_on g c =
    runs_further c.args.net c.loop-left.net c.in_ok-next.next c.loop-left.invariant.1 c.in_ok-next.ensures.runs_on

pub returns-then-is_over-clause-runs_on : goal.returns-then-is_over-clause-runs_on
returns-then-is_over-clause-runs_on g c =
    runs_further c.args.net c.loop-left.net c.in_ok-next.next c.loop-left.invariant.1 c.in_ok-next.ensures.runs_on

pub loop-left-preserved : goal.loop-left-preserved
loop-left-preserved g c =
    let low = c.loop-left.invariant.0 in
    (omega (arith, low), runs_further c.args.net c.loop-left.net c.in_ok-next.next c.loop-left.invariant.1 c.in_ok-next.ensures.runs_on)
