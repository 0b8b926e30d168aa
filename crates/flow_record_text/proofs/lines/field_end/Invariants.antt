use Rattle.std.proofs.Common.{length, ◌-◌, ◌≤◌}
use Rattle.flow_record_text.specs.Lines.{AllOrdinary}
use Rattle.flow_record_text.proofs.lines.field_end.Given as goal

abbrev pub invariant-loop-place : goal.invariant-loop-place
invariant-loop-place l = record {
  after : l.from ≤ l.place;
  within : l.place ≤ length l.bytes;
  ordinary : AllOrdinary l.bytes l.from l.place;
}

abbrev pub decreases-loop-place : goal.decreases-loop-place
decreases-loop-place l = length l.bytes - l.place
