-- A function's faults are those of its steps, and a step's are its own: none is that memory was out.
use Rattle.std.specs.Prelude.{◌≢◌, ℕ, nat_le, List, [], ◌∷◌, Bool, true, false, if◌then◌else◌, slice_get, Option, Some, None, Result, Ok, Err, ℤ, pos, negsuc, ◌+ℤ◌, ◌*ℤ◌}
use Rattle.std.specs.Ordering.{int_eq}
use Rattle.std.specs.Str.Parse.{signed_digits_value}
use Rattle.std.proofs.Common.{ap}
use Rattle.flow_value.specs.Function.{joined, each, then_each, meaning_of}
use Rattle.flow_value.specs.Number.{is_i64, is_digits, without_minus, in_range, int_of}
use Rattle.flow_value.specs.Step.{Given, one, one_int, one_field, numbers_of, total_of, summed, ints_below, counted_to, applied}
use Rattle.flow_value.specs.View.{values_of}
use Rattle.flow_value.specs.declared.step.Step.{Step}
use Rattle.flow_value.specs.declared.step.Step.TheVariants.{Id, ToInt, ToText, Add, Mul, Field, Len, Sum, Reject, Spread, Upto, Repeat}
use Rattle.flow_value.specs.declared.value.Value.{Value}
use Rattle.flow_value.specs.declared.value.Value.TheVariants.{Int, Text, Row}
use Rattle.flow_value.specs.declared.work.WorkFault.{WorkFault}
use Rattle.flow_value.specs.declared.work.WorkFault.TheVariants.{NotInt, Range, Rejected, Memory}

one_int-never : (r : Result ℤ WorkFault) → r ≢ Err Memory → one_int r ≢ Err Memory
one_int-never (Ok n) never e = cc
one_int-never (Err fault) never e = never (ap Err cc)

chosen-never : {A : Type 0} (b : Bool) (x y : Result A WorkFault) → x ≢ Err Memory → y ≢ Err Memory
    → (if b then x else y) ≢ Err Memory
chosen-never true x y first second = first
chosen-never false x y first second = second

in_range-never : (n : ℤ) → in_range n ≢ Err Memory
in_range-never n = chosen-never (is_i64 n) (Ok n) (Err Range) (λ e. cc) (λ e. cc)

int_of-never : (text : List ℕ) → int_of text ≢ Err Memory
int_of-never text =
    let number = signed_digits_value 10 text in
    chosen-never (is_digits (without_minus text)) (in_range number) (Err NotInt) (in_range-never number) (λ e. cc)

one_field-never : (found : Option Value) → one_field found ≢ Err Memory
one_field-never (Some v) e = cc
one_field-never None e = cc

summed-never : (numbers : Option (List ℤ)) → summed numbers ≢ Err Memory
summed-never (Some ns) e = one_int-never (in_range (total_of ns)) (in_range-never (total_of ns)) e
summed-never None e = cc

counted_to-never : (n : ℤ) → counted_to n ≢ Err Memory
counted_to-never (pos n) e = chosen-never (nat_le n 1000) (Ok (ints_below n)) (Err Range) (λ e. cc) (λ e. cc) e
counted_to-never (negsuc n) e = cc

-- no step's fault is out of memory
pub applied-never : (step : Step) (v : Value) → applied step v ≢ Err Memory
applied-never Id v e = cc
applied-never ToInt (Int n) e = cc
applied-never ToInt (Text t) e = one_int-never (int_of t) (int_of-never t) e
applied-never ToInt (Row r) e = cc
applied-never ToText (Int n) e = cc
applied-never ToText (Text t) e = cc
applied-never ToText (Row r) e = cc
applied-never (Add k) (Int n) e = one_int-never (in_range (n +ℤ k)) (in_range-never (n +ℤ k)) e
applied-never (Add k) (Text t) e = cc
applied-never (Add k) (Row r) e = cc
applied-never (Mul k) (Int n) e = one_int-never (in_range (n *ℤ k)) (in_range-never (n *ℤ k)) e
applied-never (Mul k) (Text t) e = cc
applied-never (Mul k) (Row r) e = cc
applied-never (Field i) (Int n) e = cc
applied-never (Field i) (Text t) e = cc
applied-never (Field i) (Row r) e = one_field-never (slice_get (values_of r) i) e
applied-never Len (Int n) e = cc
applied-never Len (Text t) e = cc
applied-never Len (Row r) e = cc
applied-never Sum (Int n) e = cc
applied-never Sum (Text t) e = cc
applied-never Sum (Row r) e = summed-never (numbers_of (values_of r)) e
applied-never (Reject k) (Int n) e = chosen-never (int_eq n k) (Err Rejected) (one (Int n)) (λ e. cc) (λ e. cc) e
applied-never (Reject k) (Text t) e = cc
applied-never (Reject k) (Row r) e = cc
applied-never Spread (Int n) e = cc
applied-never Spread (Text t) e = cc
applied-never Spread (Row r) e = cc
applied-never Upto (Int n) e = counted_to-never n e
applied-never Upto (Text t) e = cc
applied-never Upto (Row r) e = cc
applied-never (Repeat n) v e = cc

joined-never : (a b : Given) → a ≢ Err Memory → b ≢ Err Memory → joined a b ≢ Err Memory
joined-never (Ok us) (Ok vs) first second e = cc
joined-never (Ok us) (Err fault) first second e = second (ap Err cc)
joined-never (Err fault) b first second e = first (ap Err cc)

each-never : (f : Value → Given) → ((v : Value) → f v ≢ Err Memory) → (vs : List Value) → each f vs ≢ Err Memory
each-never f never [] e = cc
each-never f never (v ∷ vs) e = joined-never (f v) (each f vs) (never v) (each-never f never vs) e

then_each-never : (given : Given) (f : Value → Given) → given ≢ Err Memory → ((v : Value) → f v ≢ Err Memory)
    → then_each given f ≢ Err Memory
then_each-never (Ok vs) f first others e = each-never f others vs e
then_each-never (Err fault) f first others e = first (ap Err cc)

-- nor is a function's
pub meaning_of-never : (steps : List Step) (v : Value) → meaning_of steps v ≢ Err Memory
meaning_of-never [] v e = cc
meaning_of-never (step ∷ rest) v e =
    then_each-never (applied step v) (meaning_of rest) (applied-never step v) (meaning_of-never rest) e
