use Rattle.std.proofs.Common.{◌≡◌, ◌≤◌, length, take}
use Rattle.flow_link.specs.Trace.{took, gave_over}
use Rattle.flow_report.proofs.same.gave_as_many.Given as goal

abbrev pub invariant-loop-mark : goal.invariant-loop-mark
invariant-loop-mark l = record {
  taken : l.taken ≡ length (took (take l.mark-index l.journal));
  given : l.given ≡ length (gave_over l.link (take l.mark-index l.journal));
  few_taken : l.taken ≤ l.mark-index;
  few_given : l.given ≤ l.mark-index;
}
