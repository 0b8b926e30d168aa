use Rattle.std.proofs.Common.{◌≡◌, length, replicate}
use Rattle.flow_link.specs.declared.trace.Ending.TheVariants.{Complete}
use Rattle.flow_record_text.specs.Records.{TakesAll, texts_of, room, posted_values, posted_endings}
use Rattle.flow_record_text.proofs.RowsRead.{FromBegun}
use Rattle.flow_record_text.proofs.rows.read_rows.Given as goal

abbrev pub decreases-reading : goal.decreases-reading
decreases-reading g l = room (posted_values l.posted.items)

abbrev pub invariant-reading : goal.invariant-reading
invariant-reading g l = record {
  takes : TakesAll l.records;
  endings : posted_endings l.posted.items ≡ replicate (length l.names) Complete;
  so_far : FromBegun g.R.Read.remaining (texts_of l.names) l.fn.seen.number (posted_values l.fn.posted.items) (g.R.Read.remaining l.fn.reader) l.seen.number (posted_values l.posted.items) l.records;
}
