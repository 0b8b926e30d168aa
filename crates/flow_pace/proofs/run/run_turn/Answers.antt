use Rattle.std.proofs.Common.{Err, ap, arith, ◌∙◌}
use Rattle.flow_crew.proofs.ComesBack.{if_err, if_ok}
use Rattle.flow_crew.proofs.RunsOn.{left_further, net_is_lawful, runs_further}
use Rattle.flow_pace.proofs.run.run_turn.Goals as goal

pub returns-in-Err-Ids-clause-left : goal.returns-in-Err-Ids-clause-left
returns-in-Err-Ids-clause-left g c =
    let settled = c.settle_while_short.ensures in
    let net = c.settle_while_short.new.net in
    (settled.runs_on, (net_is_lawful g.W.Runs.meaning net net.kept, settled.used_up (c.in-Err-Ids.is ∙ ap Err c.in-Err-Ids.field-0-is)))

pub returns-in-Err-Memory-clause-left : goal.returns-in-Err-Memory-clause-left
returns-in-Err-Memory-clause-left g c =
    let net = c.settle_while_short.new.net in
    (c.settle_while_short.ensures.runs_on, net_is_lawful g.W.Runs.meaning net net.kept)

pub returns-clause-runs_on : goal.returns-clause-runs_on
returns-clause-runs_on g c =
    if_ok _ _ (λ ran is. runs_further c.args.net c.settle_while_short.new.net ran.0 c.settle_while_short.ensures.runs_on is) c.run_shift.result
    c.run_shift.ensures.runs_on

pub returns-clause-fewer : goal.returns-clause-fewer
returns-clause-fewer g c =
    let low = c.in-Ok.ensures.fewer in
    if_ok _ _ (λ ran is. let some = is (omega arith) in omega (arith, some, low)) c.run_shift.result c.run_shift.ensures.fewer

pub returns-clause-left : goal.returns-clause-left
returns-clause-left g c =
    if_err _ _ (λ fault is. left_further g.W.Runs.meaning c.args.net c.settle_while_short.new.net fault c.settle_while_short.ensures.runs_on is)
    c.run_shift.result c.run_shift.ensures.left
