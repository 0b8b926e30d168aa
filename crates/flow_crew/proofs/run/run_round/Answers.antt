use Rattle.std.proofs.Common.{◌≤◌, arith}
use Rattle.std.proofs.lemmas.Result.{IfOk-weaker, err_from_is_err_and}
use Rattle.flow_crew.proofs.ComesBack.{if_err, if_ok}
use Rattle.flow_crew.proofs.RunsOn.{left_further, net_is_lawful, runs_further}
use Rattle.flow_crew.proofs.run.run_round.Goals as goal

pub returns-in_default-clause-left : goal.returns-in_default-clause-left
returns-in_default-clause-left g c =
    (c.take_home.ensures.runs_on, net_is_lawful g.W.Runs.meaning c.take_home.new.net c.take_home.new.net.kept)

pub returns-in_err-net-clause-left : goal.returns-in_err-net-clause-left
returns-in_err-net-clause-left g c =
    let p = err_from_is_err_and c.from_residual.result c.from_residual.ensures.1 in
    rw (p.1, p.2)
    (left_further g.W.Runs.meaning c.args.net c.take_home.new.net c.in_err-net.field-0.0 c.take_home.ensures.runs_on
    c.in_err-net.ensures.left)

pub returns-then-events-gt0-clause-runs_on : goal.returns-then-events-gt0-clause-runs_on
returns-then-events-gt0-clause-runs_on g c =
    runs_further c.args.net c.take_home.new.net c.in_ok-net.net c.take_home.ensures.runs_on c.in_ok-net.ensures.runs_on

pub returns-clause-runs_on : goal.returns-clause-runs_on
returns-clause-runs_on g c =
    let before = runs_further c.args.net c.take_home.new.net c.in_ok-net.net c.take_home.ensures.runs_on c.in_ok-net.ensures.runs_on in
    if_ok _ _ (λ ran is. runs_further c.args.net c.in_ok-net.net ran.0 before is) c.take_step.result c.take_step.ensures.runs_on

pub returns-clause-left : goal.returns-clause-left
returns-clause-left g c =
    let before = runs_further c.args.net c.take_home.new.net c.in_ok-net.net c.take_home.ensures.runs_on c.in_ok-net.ensures.runs_on in
    if_err _ _ (λ fault is. left_further g.W.Runs.meaning c.args.net c.in_ok-net.net fault before is) c.take_step.result
    c.take_step.ensures.left

pub returns-clause-within : goal.returns-clause-within
returns-clause-within g c =
    let some = c.requires.some in
    IfOk-weaker c.take_step.result (λ ran. ran.1 ≤ 1) (λ ran. ran.1 ≤ c.args.limit) (λ ran few. omega (arith, few, some))
    c.take_step.ensures.within
