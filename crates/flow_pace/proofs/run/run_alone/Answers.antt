use Rattle.std.proofs.Common.{Ok, Err, ap, ◌∙◌}
use Rattle.flow_crew.proofs.RunsOn.{runs_settled}
use Rattle.flow_pace.proofs.GoesOn.{told_still}
use Rattle.flow_pace.proofs.run.run_alone.Goals as goal

pub returns-in-Ok-clause-runs_on : goal.returns-in-Ok-clause-runs_on
returns-in-Ok-clause-runs_on g c =
    runs_settled g.W.Runs.meaning c.args.limit c.args.net c.settle.new.self c.settle.ensures.same_plan c.settle.ensures.inputs_stay
    c.settle.ensures.goes_on

pub returns-in-Ok-clause-quiet : goal.returns-in-Ok-clause-quiet
returns-in-Ok-clause-quiet g c =
    λ is. c.settle.ensures.quiet (c.in-Ok.is ∙ ap Ok is)

pub returns-in-Err-Ids-clause-left : goal.returns-in-Err-Ids-clause-left
returns-in-Err-Ids-clause-left g c =
    let runs = runs_settled g.W.Runs.meaning c.args.limit c.args.net c.settle.new.self c.settle.ensures.same_plan c.settle.ensures.inputs_stay
    c.settle.ensures.goes_on in
    (runs, (c.settle.ensures.lawful, c.settle.ensures.used_up (c.in-Err-Ids.is ∙ ap Err c.in-Err-Ids.field-0-is)))

pub returns-in-Err-Memory-clause-left : goal.returns-in-Err-Memory-clause-left
returns-in-Err-Memory-clause-left g c =
    let runs = runs_settled g.W.Runs.meaning c.args.limit c.args.net c.settle.new.self c.settle.ensures.same_plan c.settle.ensures.inputs_stay
    c.settle.ensures.goes_on in
    (runs, c.settle.ensures.lawful)

pub returns-in-Ok-clause-still : goal.returns-in-Ok-clause-still
returns-in-Ok-clause-still g c =
    told_still g.W.Runs.meaning c.args.limit c.args.net c.settle.new.self c.in-Ok.settled c.settle.ensures.same_plan c.in-Ok.ensures.settled
