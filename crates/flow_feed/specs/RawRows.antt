-- What is kept of the rows of a stream.
use Rattle.std.specs.Prelude.{ℕ, List}
use Rattle.csv.specs.Reading.{reader_source}
use Rattle.flow_feed.specs.declared.rows.Rows.{Rows}

-- the row that was read last, as it stands
abbrev pub raw_of : {R : Type 0} → Rows R → List ℕ
raw_of rows = (reader_source rows.reader).row.items
