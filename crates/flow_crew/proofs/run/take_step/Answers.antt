use Rattle.std.proofs.Common.{Err, ap, ◌∙◌}
use Rattle.flow_crew.proofs.RunsOn.{runs_settled}
use Rattle.flow_crew.proofs.run.take_step.Goals as goal

pub returns-in-Ok-Quiet-clause-runs_on : goal.returns-in-Ok-Quiet-clause-runs_on
returns-in-Ok-Quiet-clause-runs_on g c =
    runs_settled g.W.Runs.meaning 1 c.args.net c.settle.new.self c.settle.ensures.same_plan c.settle.ensures.inputs_stay
    c.settle.ensures.goes_on

pub returns-in-Ok-Stopped-clause-runs_on : goal.returns-in-Ok-Stopped-clause-runs_on
returns-in-Ok-Stopped-clause-runs_on g c =
    runs_settled g.W.Runs.meaning 1 c.args.net c.settle.new.self c.settle.ensures.same_plan c.settle.ensures.inputs_stay
    c.settle.ensures.goes_on

pub returns-in-Err-Ids-clause-left : goal.returns-in-Err-Ids-clause-left
returns-in-Err-Ids-clause-left g c =
    let runs = runs_settled g.W.Runs.meaning 1 c.args.net c.settle.new.self c.settle.ensures.same_plan c.settle.ensures.inputs_stay
    c.settle.ensures.goes_on in
    (runs, (c.settle.ensures.lawful, c.settle.ensures.used_up (c.in-Err-Ids.is ∙ ap Err c.in-Err-Ids.field-0-is)))

pub returns-in-Err-Memory-clause-left : goal.returns-in-Err-Memory-clause-left
returns-in-Err-Memory-clause-left g c =
    let runs = runs_settled g.W.Runs.meaning 1 c.args.net c.settle.new.self c.settle.ensures.same_plan c.settle.ensures.inputs_stay
    c.settle.ensures.goes_on in
    (runs, c.settle.ensures.lawful)
