use Rattle.std.proofs.Common.{◌∙◌}
use Rattle.flow_link.specs.Trace.{gave_over, marks_of}
use Rattle.flow_report.specs.Report.{run_in}
use Rattle.flow_report.proofs.report.write_link.Goals as goal

pub returns-then-keep_link-clause-written : goal.returns-then-keep_link-clause-written
returns-then-keep_link-clause-written g c =
    rw c.from.ensures at (c.write_printed_line.ensures.written (gave_over c.args.link (marks_of (run_in c.args.net.now) c.args.block)) (c.text.ensures ∙ c.keep_link.ensures.text c.if-keep_link.true))

pub returns-clause-written : goal.returns-clause-written
returns-clause-written g c = rw c.journal.ensures at c.write_link_line.ensures.written
