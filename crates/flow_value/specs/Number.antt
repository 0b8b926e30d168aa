-- A number as it stands in a text: decimal digits, one or more, perhaps behind a minus sign, and nothing else.
use Rattle.std.specs.Prelude.{ℕ, ◌^◌, nat_lt, Bool, ◌&&◌, if◌then◌else◌, List, length, drop, Result, Ok, Err, ℤ, pos, negsuc}
use Rattle.std.specs.Char.{is_ascii_digit}
use Rattle.std.specs.List.{list_all}
use Rattle.std.specs.Str.Parse.{starts_with_minus, signed_digits_value}
use Rattle.flow_value.specs.declared.work.WorkFault.{WorkFault}
use Rattle.flow_value.specs.declared.work.WorkFault.TheVariants.{NotInt, Range}

-- the text behind its minus sign, if it has one
abbrev pub without_minus : List ℕ → List ℕ
without_minus text = if starts_with_minus text then drop 1 text else text

-- there are digits, and nothing but digits
abbrev pub is_digits : List ℕ → Bool
is_digits text = nat_lt 0 (length text) && list_all is_ascii_digit text

-- the numbers that an `i64` holds
abbrev pub is_i64 : ℤ → Bool
is_i64 (pos n) = nat_lt n (2 ^ 63)
is_i64 (negsuc n) = nat_lt n (2 ^ 63)

-- the same number, or that it is out of range
abbrev pub in_range : ℤ → Result ℤ WorkFault
in_range n = if is_i64 n then Ok n else Err Range

-- the number that a text is, or why it is none
abbrev pub int_of : List ℕ → Result ℤ WorkFault
int_of text = if is_digits (without_minus text) then in_range (signed_digits_value 10 text) else Err NotInt
