-- A number as an argument writes it: decimal digits, one or more, and nothing else.
use Rattle.std.specs.Prelude.{ℕ, ◌^◌, nat_lt, if◌then◌else◌, List, Option, Some, None}
use Rattle.std.specs.Str.Parse.{digits_value}
use Rattle.flow_value.specs.Number.{is_digits}

-- a number that 64 bits hold
abbrev pub in_64_bits : ℕ → Option ℕ
in_64_bits n = if nat_lt n (2 ^ 64) then Some n else None

-- the number that a text is, if it is one
abbrev pub number_of : List ℕ → Option ℕ
number_of text = if is_digits text then in_64_bits (digits_value 10 text) else None
