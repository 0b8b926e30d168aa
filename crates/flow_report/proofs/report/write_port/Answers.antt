use Rattle.std.proofs.Common.{◌∙◌}
use Rattle.flow_link.specs.Trace.{took_at, marks_of}
use Rattle.flow_report.specs.Report.{run_in}
use Rattle.flow_report.proofs.report.write_port.Goals as goal

pub returns-then-keep_port-clause-written : goal.returns-then-keep_port-clause-written
returns-then-keep_port-clause-written g c =
    rw c.from.ensures at (c.write_printed_line.ensures.written (took_at c.args.port (marks_of (run_in c.args.net.now) c.args.block)) (c.text.ensures ∙ c.keep_port.ensures.text c.if-keep_port.true))

pub returns-clause-written : goal.returns-clause-written
returns-clause-written g c = rw c.journal.ensures at c.write_port_line.ensures.written
