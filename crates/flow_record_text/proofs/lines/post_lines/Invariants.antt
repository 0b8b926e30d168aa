use Rattle.std.proofs.Common.{◌≡◌, ◌≤◌, ◌-◌, length, take}
use Rattle.flow_record_text.specs.Records.{texts_of, room, posted_values, posted_endings}
use Rattle.flow_record_text.specs.Lines.{GoesOn}
use Rattle.flow_record_text.proofs.lines.post_lines.Given as goal

abbrev pub decreases-lines : goal.decreases-lines
decreases-lines l = length l.bytes - l.used

abbrev pub invariant-lines : goal.invariant-lines
invariant-lines l = record {
  within : l.used ≤ length l.bytes;
  endings : posted_endings l.posted.items ≡ posted_endings l.initial.posted.items;
  room : room (posted_values l.posted.items) ≤ room (posted_values l.initial.posted.items);
  goes_on : GoesOn (texts_of l.names) l.initial.seen.number (posted_values l.initial.posted.items) l.seen.number (posted_values l.posted.items) (take l.used l.bytes);
}
