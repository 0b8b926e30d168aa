-- The text of a field, however it is kept.
use Rattle.std.specs.Prelude.{ℕ, List}
use Rattle.flow_record_text.specs.declared.fields.Field.{Field}
use Rattle.flow_record_text.specs.declared.fields.Field.TheVariants.{Made, Left}

abbrev pub text_in : Field → List ℕ
text_in (Made text) = text
text_in (Left text) = text.now
