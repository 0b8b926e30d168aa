use Rattle.std.proofs.Common.{◌∙◌, ap, sym}
use Rattle.flow_link.specs.Trace.{trace_of}
use Rattle.flow_report.specs.Printed.{list_text}
use Rattle.flow_report.specs.Report.{run_in}
use Rattle.flow_report.proofs.report.write_record.Goals as goal

pub returns-then-records_all-clause-written : goal.returns-then-records_all-clause-written
returns-then-records_all-clause-written g c =
    let run = run_in c.args.net.now in
    c.write_printed_line.ensures.written (trace_of run c.args.block).recorded
    (c.text.ensures ∙ c.is_of_port.ensures run c.requires.fits c.if-is_of_port.true ∙ sym (ap list_text (c.records_all.ensures c.if-records_all.true)))

pub returns-clause-written : goal.returns-clause-written
returns-clause-written g c = rw c.record.ensures at c.write_record_line.ensures.written
