use Rattle.std.proofs.Common.{◌≡◌, ◌≤◌, ◌++◌, take, drop}
use Rattle.std.specs.Io.KnownBytes.{Appends, append_known}
use Rattle.flow_report.specs.Printed.{escapes}
use Rattle.flow_report.specs.Written.{StaysInFront}
use Rattle.flow_report.proofs.value_text.gather_escapes.Given as goal

abbrev pub invariant-loop-at : goal.invariant-loop-at
invariant-loop-at g l = record {
  before : l.start ≤ l.at;
  plain : escapes (take l.at l.text) ≡ escapes (take l.start l.text) ++ drop l.start (take l.at l.text);
  written : Appends (append_known (g.W.Write.contents l.fn.writer) l.fn.page.items) (append_known (g.W.Write.contents l.writer) l.page.items) (escapes (take l.start l.text));
  kept : StaysInFront (g.W.Write.contents l.fn.writer) (g.W.Write.contents l.writer);
}
