use Rattle.std.proofs.Common.{rules, ◌≡◌, ◌∙◌, Err, Ok, ap}
use Rattle.flow_value.specs.Function.{meaning_of}
use Rattle.flow_net.specs.Net.{run_of}
use Rattle.flow_report.specs.Report.{report}
use Rattle.bevelrose_c.proofs.Runs.{no_ids, reported}
use Rattle.bevelrose_c.proofs.run.settle.Goals as goal

pub returns-in-Err-Ids-clause-refused : goal.returns-in-Err-Ids-clause-refused
returns-in-Err-Ids-clause-refused c =
    let did = c.settle.ensures in
    no_ids c.args.limit c.args.net.now c.settle.new.self did.same_plan did.same_inputs did.lawful did.goes_on (did.used_up (c.in-Err-Ids.is ∙ ap Err c.in-Err-Ids.field-0-is))

pub returns-clause-reported : goal.returns-clause-reported
returns-clause-reported c =
    let did = c.settle.ensures in
    let written : c.write_report.new.writer.items ≡ report (run_of meaning_of c.settle.new.self) c.in-Ok.settled = search rules in
    reported c.args.limit c.args.net.now c.settle.new.self did.same_plan did.same_inputs did.lawful c.in-Ok.settled c.is_complete-complete.result c.write_report.new.writer.items
    c.in-Ok.ensures.settled (λ is. did.quiet (c.in-Ok.is ∙ ap Ok is)) written c.is_complete-complete.ensures
