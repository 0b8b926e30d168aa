use Rattle.std.proofs.Common.{◌+◌, ◌*◌, take}
use Rattle.std.specs.Io.KnownBytes.{Appends, append_known}
use Rattle.flow_value.specs.Items.{value_count}
use Rattle.flow_value.specs.View.{items_from}
use Rattle.flow_value.specs.Seen.{value_of_ref}
use Rattle.flow_report.specs.Printed.{opened}
use Rattle.flow_report.specs.Written.{StaysInFront}
use Rattle.flow_report.proofs.PrintedGrows.{weight}
use Rattle.flow_report.proofs.value_text.+printing.Given as goal

abbrev pub decreases-gather_item : goal.decreases-gather_item
decreases-gather_item g l = 3 * weight (value_of_ref l.seen.value) + 1

abbrev pub decreases-gather_parts : goal.decreases-gather_parts
decreases-gather_parts g l = 3 * weight (value_of_ref l.value)

abbrev pub decreases-gather_values : goal.decreases-gather_values
decreases-gather_values g l = 3 * value_count (items_from l.values.now) + 2

abbrev pub invariant-gather_values-loop-at : goal.invariant-gather_values-loop-at
invariant-gather_values-loop-at g l = record {
  written : Appends (append_known (g.W.Write.contents l.fn.writer) l.fn.page.items) (append_known (g.W.Write.contents l.writer) l.page.items) (opened (take l.at l.values));
  kept : StaysInFront (g.W.Write.contents l.fn.writer) (g.W.Write.contents l.writer);
}
