-- The records that are made of a row, and which rows they are made of.
use Rattle.std.specs.Prelude.{◌≡◌, ℕ, ⊤, false, List, [], ◌∷◌, ◌++◌, Option, Some, None}
use Rattle.std.specs.List.{flat_map}
use Rattle.csv.specs.Records.{field_at}
use Rattle.csv.specs.Writing.{row_text, default_writer, fields_written, has_written, writer_setup}
use Rattle.csv.specs.declared.writer.Writer.{Writer}
use Rattle.flow_feed.specs.declared.choice.Column.{Column}
use Rattle.flow_feed.specs.declared.choice.Column.TheVariants.{Number, Field}
use Rattle.flow_feed.specs.declared.choice.Test.{Test}
use Rattle.flow_feed.specs.declared.choice.Way.{Way}

abbrev pub or_nothing : Option (List ℕ) → List ℕ
or_nothing None = []
or_nothing (Some text) = text

-- the text in a column of a row with these fields, whose number has these digits
abbrev pub column_text : List (List ℕ) → List ℕ → Column → List ℕ
column_text fields digits Number = digits
column_text fields digits (Field place) = or_nothing (field_at fields place)

-- the row has each text that it must have
abbrev pub HasAll : List (List ℕ) → List ℕ → List Test → Type 0
HasAll fields digits [] = ⊤
HasAll fields digits (test ∷ tests) = (column_text fields digits test.column ≡ test.text.now) × HasAll fields digits tests

-- the key in front of a record, if there is to be one
abbrev pub key_fields : List (List ℕ) → List ℕ → Option Column → List (List ℕ)
key_fields fields digits None = []
key_fields fields digits (Some column) = column_text fields digits column ∷ []

-- the fields of the record for one input
abbrev pub record_fields : List (List ℕ) → List ℕ → Option Column → Way → List (List ℕ)
record_fields fields digits key way = key_fields fields digits key ++ (way.input.now ∷ column_text fields digits way.column ∷ [])

-- the records of a row, one after another, as they are written
abbrev pub records_text : List (List ℕ) → List ℕ → Option Column → List Way → List ℕ
records_text fields digits key ways = flat_map (λ way. row_text default_writer (record_fields fields digits key way)) ways

-- a writer of the usual form that stands between two records
pub record IsBetween {W : Type 0} (writer : Writer W) : Type 0 where
  pub fields : fields_written writer ≡ 0
  pub wrote : has_written writer ≡ false
  pub setup : writer_setup writer ≡ default_writer
