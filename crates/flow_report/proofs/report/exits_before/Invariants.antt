use Rattle.std.proofs.Common.{◌≡◌, ◌≤◌, take, count_by}
use Rattle.flow_report.specs.Report.{is_output, run_in}
use Rattle.flow_report.proofs.report.exits_before.Given as goal

abbrev pub invariant-loop-number : goal.invariant-loop-number
invariant-loop-number l = record {
  counted : l.count ≡ count_by is_output (take l.number (run_in l.net).layout.blocks);
  few : l.count ≤ l.number;
}
