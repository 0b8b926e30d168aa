-- How a step or a predicate is written: its name, or its name, one space and a number.
use Rattle.std.specs.Prelude.{◌≡◌, ◌≢◌, ℕ, ◌<◌, ◌≤◌, List, [], ◌∷◌, ◌++◌, length, codes, slice_index, slice_index_or, Option, Some, None, Ok, ℤ, pos}
use Rattle.flow_value.specs.Number.{int_of}
use Rattle.flow_value.specs.declared.step.Step.{Step}
use Rattle.flow_value.specs.declared.step.Step.TheVariants.{Id, ToInt, ToText, Add, Mul, Field, Len, Sum, Reject, Spread, Upto, Repeat}

-- what is found has P, and nothing is found only where nothing has
abbrev pub Finds : {A : Type 0} → Option A → (A → Type 0) → Type 0
Finds {A} None P = (a : A) → P a → ⊥
Finds (Some a) P = P a

-- a name has no space
abbrev pub HasNoSpace : List ℕ → Type 0
HasNoSpace name = (i : ℕ) → i < length name → slice_index name i ≢ 32

-- the text is this name, with this number behind it if there is one
abbrev pub IsWritten : List ℕ → List ℕ → Option ℤ → Type 0
IsWritten text name None = text ≡ name
IsWritten text name (Some n) = (digits : List ℕ) × (text ≡ name ++ 32 ∷ digits) × (int_of digits ≡ Ok n)

abbrev pub name_of : Step → List ℕ
name_of Id = codes "id"
name_of ToInt = codes "int"
name_of ToText = codes "text"
name_of (Add _) = codes "add"
name_of (Mul _) = codes "mul"
name_of (Field _) = codes "field"
name_of Len = codes "len"
name_of Sum = codes "sum"
name_of (Reject _) = codes "reject"
name_of Spread = codes "spread"
name_of Upto = codes "upto"
name_of (Repeat _) = codes "repeat"

-- the number that is written behind the name
abbrev pub number_in : Step → Option ℤ
number_in (Add k) = Some k
number_in (Mul k) = Some k
number_in (Field i) = Some (pos i)
number_in (Reject k) = Some k
number_in (Repeat n) = Some (pos n)
number_in _ = None

-- a place is at most 4,095, and a count at most 1,000
abbrev pub IsInBounds : Step → Type 0
IsInBounds (Field i) = i ≤ 4095
IsInBounds (Repeat n) = n ≤ 1000
IsInBounds _ = Unit {0}

-- the step with this name and number
pub record IsNamed (name : List ℕ) (number : Option ℤ) (step : Step) : Type 0 where
  pub named : name_of step ≡ name
  pub numbered : number_in step ≡ number
  pub in_bounds : IsInBounds step

-- the text is this step
pub record Spells (text : List ℕ) (step : Step) : Type 0 where
  pub written : IsWritten text (name_of step) (number_in step)
  pub in_bounds : IsInBounds step

-- the texts are these steps, one by one
abbrev pub AllSpelled : List (List ℕ) → List Step → Type 0
AllSpelled [] [] = Unit {0}
AllSpelled (text ∷ texts) (step ∷ steps) = Spells text step × AllSpelled texts steps
AllSpelled _ _ = ⊥

-- the text at this place is the first that is no step, or that stands behind the sixteenth
pub record IsFirstBad (texts : List (List ℕ)) (place : ℕ) : Type 0 where
  pub within : place < length texts
  pub bad : place < 16 → (step : Step) → Spells (slice_index_or texts place []) step → ⊥
  pub fine_before : (i : ℕ) → i < place → (i < 16) × ((step : Step) × Spells (slice_index_or texts i []) step)
