use Rattle.std.proofs.Common.{◌≡◌, ◌≤◌, length, take}
use Rattle.flow_link.specs.Trace.{took_over}
use Rattle.flow_report.proofs.report.count_taken.Given as goal

abbrev pub invariant-loop-mark : goal.invariant-loop-mark
invariant-loop-mark l = (l.count ≡ length (took_over l.link (take l.mark-index l.journal))) × (l.count ≤ l.mark-index)
