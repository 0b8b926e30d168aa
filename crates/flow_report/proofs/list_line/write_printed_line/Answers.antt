use Rattle.std.proofs.Common.{[], ◌∷◌, ◌++◌}
use Rattle.std.proofs.lemmas.Result.{on_ok_weaker}
use Rattle.flow_report.specs.Report.{label_text}
use Rattle.flow_report.proofs.PrintedGrows.{appends-both}
use Rattle.flow_report.proofs.list_line.write_printed_line.Goals as goal

pub returns-clause-written : goal.returns-clause-written
returns-clause-written g c = λ values is.
    let label = label_text c.args.label.now c.args.number in
    let text = rw is at c.in_ok-write_bytes.ensures.written in
    let listed = appends-both _ _ _ (label ++ (32 ∷ [])) _ c.in_ok-begin_line.ensures.written text in
    on_ok_weaker c.write_bytes-2.result (λ end. appends-both _ _ _ _ (10 ∷ []) listed end) c.write_bytes-2.ensures.written
