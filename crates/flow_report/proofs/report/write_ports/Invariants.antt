use Rattle.std.proofs.Common.{map}
use Rattle.std.specs.List.{concat}
use Rattle.std.specs.Io.KnownBytes.{Appends}
use Rattle.flow_link.specs.Lists.{below}
use Rattle.flow_report.specs.KeptList.{Fits}
use Rattle.flow_report.specs.Report.{port_lines, run_in}
use Rattle.flow_report.specs.Written.{StaysInFront}
use Rattle.flow_report.proofs.report.write_ports.Given as goal

abbrev pub invariant-loop-port : goal.invariant-loop-port
invariant-loop-port g l = record {
  written : Appends (g.W.Write.contents l.fn.writer) (g.W.Write.contents l.writer) (concat (map (port_lines (run_in l.net) l.block) (below l.port)));
  fits : Fits (run_in l.net) l.kept;
  kept : StaysInFront (g.W.Write.contents l.fn.writer) (g.W.Write.contents l.writer);
}
