-- What a value holds, by its kind.
use Rattle.std.specs.Prelude.{ℕ, List, Bool, false, Option, Some, None, ℤ}
use Rattle.flow_value.specs.Plain.{all_plain}
use Rattle.flow_value.specs.View.{values_of}
use Rattle.flow_value.specs.declared.value.Value.{Value}
use Rattle.flow_value.specs.declared.value.Value.TheVariants.{Int, Text, Row}

abbrev pub int_part : Value → Option ℤ
int_part (Int n) = Some n
int_part (Text _) = None
int_part (Row _) = None

abbrev pub text_part : Value → Option (List ℕ)
text_part (Int _) = None
text_part (Text t) = Some t
text_part (Row _) = None

abbrev pub row_part : Value → Option (List Value)
row_part (Int _) = None
row_part (Text _) = None
row_part (Row items) = Some (values_of items)

abbrev pub is_plain_text : Value → Bool
is_plain_text (Int _) = false
is_plain_text (Text t) = all_plain t
is_plain_text (Row _) = false
