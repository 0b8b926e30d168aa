-- What each named step makes of a value: the values that it gives, or its fault.
use Rattle.std.specs.Prelude.{ℕ, nat_le, Bool, true, false, List, [], ◌∷◌, length, map, fold, replicate, slice_get, if◌then◌else◌, Option, Some, None, Result, Ok, Err, ℤ, pos, negsuc, ◌+ℤ◌, ◌*ℤ◌}
use Rattle.std.specs.Fmt.{signed_decimal}
use Rattle.std.specs.List.{range_with_len}
use Rattle.std.specs.Option.{option_map}
use Rattle.std.specs.Ordering.{int_eq}
use Rattle.flow_value.specs.Number.{in_range, int_of}
use Rattle.flow_value.specs.View.{values_of}
use Rattle.flow_value.specs.declared.step.Step.{Step}
use Rattle.flow_value.specs.declared.step.Step.TheVariants.{Id, ToInt, ToText, Add, Mul, Field, Len, Sum, Reject, Spread, Upto, Repeat}
use Rattle.flow_value.specs.declared.value.Value.{Value}
use Rattle.flow_value.specs.declared.value.Value.TheVariants.{Int, Text, Row}
use Rattle.flow_value.specs.declared.work.WorkFault.{WorkFault}
use Rattle.flow_value.specs.declared.work.WorkFault.TheVariants.{NotInt, NotText, NotRow, NoField, Range, Rejected}

-- what a function gives for a value
abbrev pub Given : Type 0
Given = Result (List Value) WorkFault

-- one value and no other
abbrev pub one : Value → Given
one v = Ok (v ∷ [])

abbrev pub one_int : Result ℤ WorkFault → Given
one_int (Ok n) = one (Int n)
one_int (Err fault) = Err fault

abbrev pub one_field : Option Value → Given
one_field (Some v) = one v
one_field None = Err NoField

-- the numbers in a row, where all its values are numbers
abbrev pub numbers_of : List Value → Option (List ℤ)
numbers_of [] = Some []
numbers_of (Int n ∷ vs) = option_map (λ ns. n ∷ ns) (numbers_of vs)
numbers_of (Text _ ∷ _) = None
numbers_of (Row _ ∷ _) = None

abbrev pub total_of : List ℤ → ℤ
total_of ns = fold ◌+ℤ◌ (pos 0) ns

abbrev pub summed : Option (List ℤ) → Given
summed (Some ns) = one_int (in_range (total_of ns))
summed None = Err NotInt

-- the whole numbers below n, from 0 on
abbrev pub ints_below : ℕ → List Value
ints_below n = map (λ i. Int (pos i)) (range_with_len 0 n)

abbrev pub counted_to : ℤ → Given
counted_to (pos n) = if nat_le n 1000 then Ok (ints_below n) else Err Range
counted_to (negsuc _) = Err Range

abbrev pub applied : Step → Value → Given
applied Id v = one v
applied ToInt (Int n) = one (Int n)
applied ToInt (Text t) = one_int (int_of t)
applied ToInt (Row _) = Err NotInt
applied ToText (Int n) = one (Text (signed_decimal n))
applied ToText (Text t) = one (Text t)
applied ToText (Row _) = Err NotText
applied (Add k) (Int n) = one_int (in_range (n +ℤ k))
applied (Add _) _ = Err NotInt
applied (Mul k) (Int n) = one_int (in_range (n *ℤ k))
applied (Mul _) _ = Err NotInt
applied (Field i) (Row items) = one_field (slice_get (values_of items) i)
applied (Field _) _ = Err NotRow
applied Len (Int _) = Err NotRow
applied Len (Text t) = one (Int (pos (length t)))
applied Len (Row items) = one (Int (pos (length (values_of items))))
applied Sum (Row items) = summed (numbers_of (values_of items))
applied Sum _ = Err NotRow
applied (Reject k) (Int n) = if int_eq n k then Err Rejected else one (Int n)
applied (Reject _) _ = Err NotInt
applied Spread (Row items) = Ok (values_of items)
applied Spread _ = Err NotRow
applied Upto (Int n) = counted_to n
applied Upto _ = Err NotInt
applied (Repeat n) v = Ok (replicate n v)

-- a step that gives a list of values, and not one value
abbrev pub gives_list : Step → Bool
gives_list Id = false
gives_list ToInt = false
gives_list ToText = false
gives_list (Add _) = false
gives_list (Mul _) = false
gives_list (Field _) = false
gives_list Len = false
gives_list Sum = false
gives_list (Reject _) = false
gives_list Spread = true
gives_list Upto = true
gives_list (Repeat _) = true
