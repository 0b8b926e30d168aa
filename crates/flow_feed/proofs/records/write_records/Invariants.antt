use Rattle.std.proofs.Common.{take}
use Rattle.std.specs.Io.KnownBytes.{Appends}
use Rattle.csv.specs.Records.{fields_of}
use Rattle.csv.specs.Writing.{text_written}
use Rattle.flow_feed.specs.Sends.{IsBetween, records_text}
use Rattle.flow_feed.proofs.records.write_records.Given as goal

abbrev pub invariant-ways : goal.invariant-ways
invariant-ways g l = IsBetween l.writer
    × Appends (text_written g.W.Write.contents l.fn.writer) (text_written g.W.Write.contents l.writer)
    (records_text (fields_of l.row.row.now) l.row.digits.now l.choice.key (take l.way-index l.choice.ways.items))
