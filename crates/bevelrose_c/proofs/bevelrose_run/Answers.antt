use Rattle.bevelrose_c.specs.Answers.{Answers}
use Rattle.bevelrose_c.specs.Ran.{IsReported}
use Rattle.bevelrose_c.proofs.Told.{told}
use Rattle.bevelrose_c.proofs.bevelrose_run.Goals as goal

pub returns-in-Some-Err-clause-ran : goal.returns-in-Some-Err-clause-ran
returns-in-Some-Err-clause-ran c =
    let failed = c.in-Some-Err in
    told (Answers c.args.room.now c.refuse.new.room c.refuse.new.size c.refuse.result) c.args.handle.now.held c.args.records.now c.args.limit failed.refusal
    (λ plan outcome. IsReported plan c.args.records.now c.args.limit outcome.settled outcome.complete outcome.report.items) failed.field-0 failed.field-0-is
    failed.ensures.ran c.refuse.ensures
