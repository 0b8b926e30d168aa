-- What is sure where a hint is told.
use Rattle.std.specs.Prelude.{◌≡◌, ℕ, nat_le, Bool, true, ◌&&◌, length, Option, Some, None, is_err}
use Rattle.flow_value.specs.Step.{applied}
use Rattle.flow_value.specs.View.{values_of}
use Rattle.flow_value.specs.When.{admits}
use Rattle.flow_value.specs.declared.step.Step.{Step}
use Rattle.flow_value.specs.declared.value.Value.{Value}
use Rattle.flow_value.specs.declared.value.Value.TheVariants.{Int, Text, Row}
use Rattle.flow_value.specs.declared.when.When.{When}
use Rattle.flow_hints.specs.declared.sorts.Sorts.{Sorts}

-- the later of two predicates admits no value that the earlier one doesn't admit
pub record AdmitsNoMore (later earlier : When) : Type 0 where
  pub each : (value : Value) → admits later value ≡ true → admits earlier value ≡ true

-- there are no more than this, where it is known how many there are at most
abbrev pub within : Option ℕ → ℕ → Bool
within (Some most) count = nat_le count most
within None count = true

-- the value is of one of these sorts
abbrev pub is_of : Sorts → Value → Bool
is_of sorts (Int _) = sorts.numbers
is_of sorts (Text _) = sorts.texts
is_of sorts (Row items) = sorts.rows && within sorts.most_items (length (values_of items))

-- the step faults at each value of these sorts
pub record FaultsAtEach (step : Step) (sorts : Sorts) : Type 0 where
  pub each : (value : Value) → is_of sorts value ≡ true → is_err (applied step value) ≡ true
