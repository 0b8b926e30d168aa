-- How values are printed: numbers in decimal, texts between double quotes, rows and lists between brackets.
use Rattle.std.specs.Prelude.{ℕ, ◌+◌, ◌/◌, ◌%◌, ◌==◌, nat_lt, ◌||◌, if◌then◌else◌, Bool, true, false, List, [], ◌∷◌, ◌++◌, map}
use Rattle.std.specs.Fmt.{signed_decimal}
use Rattle.std.specs.List.{join_with_byte}
use Rattle.flow_value.specs.Items.{Items, done, int_then, text_then, row_then}
use Rattle.flow_value.specs.declared.value.Value.{Value}
use Rattle.flow_value.specs.declared.value.Value.TheVariants.{Int, Text, Row}

-- 0 to 9 and a to f
abbrev pub hex_digit : ℕ → ℕ
hex_digit n = if nat_lt n 10 then 48 + n else 87 + n

-- a byte of a text: a double quote or a backslash behind a backslash, a control character by its number
abbrev pub escaped : ℕ → List ℕ
escaped byte =
    if (byte == 34) || (byte == 92) then 92 ∷ byte ∷ []
    else if nat_lt byte 32 || (byte == 127) then 92 ∷ 120 ∷ hex_digit (byte / 16) ∷ hex_digit (byte % 16) ∷ []
    else byte ∷ []

-- the bytes of a text, one by one
abbrev pub escapes : List ℕ → List ℕ
escapes [] = []
escapes (byte ∷ bytes) = escaped byte ++ escapes bytes

abbrev pub quoted : List ℕ → List ℕ
quoted text = 34 ∷ (escapes text ++ (34 ∷ []))

-- printed items between brackets, with commas between them
abbrev pub bracketed : List (List ℕ) → List ℕ
bracketed items = 91 ∷ (join_with_byte 44 items ++ (93 ∷ []))

-- each value of a row, printed
abbrev pub item_texts : Items → List (List ℕ)
item_texts done = []
item_texts (int_then n rest) = signed_decimal n ∷ item_texts rest
item_texts (text_then t rest) = quoted t ∷ item_texts rest
item_texts (row_then inner rest) = bracketed (item_texts inner) ∷ item_texts rest

abbrev pub value_text : Value → List ℕ
value_text (Int n) = signed_decimal n
value_text (Text t) = quoted t
value_text (Row items) = bracketed (item_texts items)

abbrev pub list_text : List Value → List ℕ
list_text values = bracketed (map value_text values)

-- what stands before an item
abbrev pub comma_unless : Bool → List ℕ
comma_unless true = []
comma_unless false = 44 ∷ []

-- the text of a list, but for its last bracket
abbrev pub opened : List Value → List ℕ
opened values = 91 ∷ join_with_byte 44 (map value_text values)
