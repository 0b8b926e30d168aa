use Rattle.std.proofs.Common.{map}
use Rattle.std.specs.List.{concat}
use Rattle.std.specs.Io.KnownBytes.{Appends}
use Rattle.flow_link.specs.Lists.{below}
use Rattle.flow_report.specs.KeptList.{Fits}
use Rattle.flow_report.specs.Report.{block_report, run_in}
use Rattle.flow_report.specs.Written.{StaysInFront}
use Rattle.flow_report.proofs.report.write_lines.Given as goal

abbrev pub invariant-loop-block : goal.invariant-loop-block
invariant-loop-block g l = record {
  written : Appends (g.W.Write.contents l.fn.writer) (g.W.Write.contents l.writer) (concat (map (block_report (run_in l.net)) (below l.block)));
  fits : Fits (run_in l.net) l.kept;
  kept : StaysInFront (g.W.Write.contents l.fn.writer) (g.W.Write.contents l.writer);
}
