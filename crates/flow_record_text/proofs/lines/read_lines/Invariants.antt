use Rattle.std.proofs.Common.{◌≡◌, ◌≤◌}
use Rattle.std.specs.Io.Buffered.{reader_remaining}
use Rattle.flow_record_text.specs.Records.{texts_of, room, posted_values, posted_endings}
use Rattle.flow_record_text.specs.Lines.{GoesFrom}
use Rattle.flow_record_text.proofs.lines.read_lines.Given as goal

abbrev pub decreases-reading : goal.decreases-reading
decreases-reading g l = room (posted_values l.posted.items)

abbrev pub invariant-reading : goal.invariant-reading
invariant-reading g l = record {
  endings : posted_endings l.posted.items ≡ posted_endings l.initial.posted.items;
  goes_from : GoesFrom (texts_of l.names) l.initial.seen.number (posted_values l.initial.posted.items) l.seen.number (posted_values l.posted.items)
      (reader_remaining g.R.Read.remaining l.initial.reader) (reader_remaining g.R.Read.remaining l.reader);
}
