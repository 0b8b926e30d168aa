-- What a predicate admits, and which texts are predicates.
use Rattle.std.specs.Prelude.{◌≡◌, ◌==◌, ℕ, ◌+◌, ◌%◌, List, codes, Bool, true, false, not, Option, Some, None, ℤ, pos, negsuc}
use Rattle.std.specs.Int.RustNames.{int_lt}
use Rattle.std.specs.Ordering.{int_eq}
use Rattle.flow_value.specs.Grammar.{IsWritten}
use Rattle.flow_value.specs.declared.value.Value.{Value}
use Rattle.flow_value.specs.declared.value.Value.TheVariants.{Int, Text, Row}
use Rattle.flow_value.specs.declared.when.When.{When}
use Rattle.flow_value.specs.declared.when.When.TheVariants.{Any, Even, Odd, Lt, Ge, Eq}

-- -2 is even, and -1 is odd
abbrev pub is_even : ℤ → Bool
is_even (pos n) = n % 2 == 0
is_even (negsuc n) = (n + 1) % 2 == 0

-- what is said of a number, and of no text or row
abbrev pub of_int : Value → (ℤ → Bool) → Bool
of_int (Int n) test = test n
of_int (Text _) test = false
of_int (Row _) test = false

abbrev pub admits : When → Value → Bool
admits Any v = true
admits Even v = of_int v is_even
admits Odd v = of_int v (λ n. not (is_even n))
admits (Lt k) v = of_int v (λ n. int_lt n k)
admits (Ge k) v = of_int v (λ n. not (int_lt n k))
admits (Eq k) v = of_int v (λ n. int_eq n k)

abbrev pub when_name : When → List ℕ
when_name Any = codes "any"
when_name Even = codes "even"
when_name Odd = codes "odd"
when_name (Lt _) = codes "lt"
when_name (Ge _) = codes "ge"
when_name (Eq _) = codes "eq"

abbrev pub when_number : When → Option ℤ
when_number (Lt k) = Some k
when_number (Ge k) = Some k
when_number (Eq k) = Some k
when_number _ = None

-- the predicate with this name and number
pub record IsWhenNamed (name : List ℕ) (number : Option ℤ) (when : When) : Type 0 where
  pub named : when_name when ≡ name
  pub numbered : when_number when ≡ number

-- the text is this predicate
abbrev pub SpellsWhen : List ℕ → When → Type 0
SpellsWhen text when = IsWritten text (when_name when) (when_number when)
