use Rattle.std.proofs.Common.{rules}
use Rattle.std.proofs.lemmas.Result.{err_from_is_err_and}
use Rattle.flow_crew.proofs.RunsOn.{left_further, net_is_lawful, runs_further, runs_itself}
use Rattle.flow_pace.proofs.run.run_together.Goals as goal

pub loop-left-init : goal.loop-left-init
loop-left-init g c =
    runs_itself c.args.net

pub returns-in_err-next-clause-left : goal.returns-in_err-next-clause-left
returns-in_err-next-clause-left g c =
    let p = err_from_is_err_and c.from_residual.result c.from_residual.ensures.1 in
    rw (p.1, p.2)
    (left_further g.W.Runs.meaning c.args.net c.loop-left.net c.in_err-next.field-0.0 c.loop-left.invariant c.in_err-next.ensures.left)

pub loop-left-preserved : goal.loop-left-preserved
loop-left-preserved g c =
    runs_further c.args.net c.loop-left.net c.in_ok-next.next c.loop-left.invariant c.in_ok-next.ensures.runs_on

pub returns-clause-lawful : goal.returns-clause-lawful
returns-clause-lawful g c =
    net_is_lawful g.W.Runs.meaning c.loop-left.net c.loop-left.net.kept

pub returns-clause-still : goal.returns-clause-still
returns-clause-still g c =
    search rules
