use Rattle.std.proofs.Common.{◌≡◌, [], map}
use Rattle.std.specs.Io.KnownBytes.{Appends, append_known}
use Rattle.flow_link.specs.Lists.{is_empty}
use Rattle.flow_report.specs.Given.{seen_value}
use Rattle.flow_report.specs.Printed.{opened}
use Rattle.flow_report.specs.Written.{StaysInFront}
use Rattle.flow_report.proofs.list_line.write_list.Given as goal

abbrev pub invariant-loop-value : goal.invariant-loop-value
invariant-loop-value g l = record {
  first : l.is_first ≡ is_empty (map seen_value l.yielded);
  written : Appends (append_known (g.W.Write.contents l.fn.writer) []) (append_known (g.W.Write.contents l.writer) l.page.items) (opened (map seen_value l.yielded));
  kept : StaysInFront (g.W.Write.contents l.fn.writer) (g.W.Write.contents l.writer);
}
