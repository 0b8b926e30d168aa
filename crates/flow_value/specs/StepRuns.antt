-- When the code of a step answers what the step means.
use Rattle.std.specs.Prelude.{◌≡◌, ◌≢◌, Result, Ok, Err, ℤ, replicate}
use Rattle.flow_value.specs.Items.{Items}
use Rattle.flow_value.specs.Step.{Given, one, applied, ints_below}
use Rattle.flow_value.specs.declared.step.Step.{Step}
use Rattle.flow_value.specs.declared.step.FromInt.{FromInt}
use Rattle.flow_value.specs.declared.step.FromInt.TheVariants as from_int
use Rattle.flow_value.specs.declared.step.Applied.{Applied}
use Rattle.flow_value.specs.declared.step.Applied.TheVariants.{One, Many}
use Rattle.flow_value.specs.declared.value.Value.{Value}
use Rattle.flow_value.specs.declared.value.Value.TheVariants.{Int, Text, Row}
use Rattle.flow_value.specs.declared.work.WorkFault.{WorkFault}
use Rattle.flow_value.specs.declared.work.WorkFault.TheVariants.{NotInt, NotRow, Memory}

-- the number in a value
abbrev pub int_in : Value → Result ℤ WorkFault
int_in (Int n) = Ok n
int_in (Text _) = Err NotInt
int_in (Row _) = Err NotInt

-- the row in a value
abbrev pub row_in : Value → Result Items WorkFault
row_in (Int _) = Err NotRow
row_in (Text _) = Err NotRow
row_in (Row items) = Ok items

-- one value is what is given, or the fault, unless memory was out
abbrev pub GivesOne : Given → Result Value WorkFault → Type 0
GivesOne given (Ok v) = given ≡ one v
GivesOne given (Err fault) = fault ≢ Memory → given ≡ Err fault

-- the same for a step that gives one value or many
abbrev pub AppliesAs : Given → Result Applied WorkFault → Type 0
AppliesAs given (Ok (One v)) = given ≡ one v
AppliesAs given (Ok (Many values)) = given ≡ Ok values.items
AppliesAs given (Err fault) = fault ≢ Memory → given ≡ Err fault

-- what a step makes of a number, without a list; of a value that is no number it says nothing
abbrev pub AppliesToInt : Step → ℤ → Result FromInt WorkFault → Type 0
AppliesToInt step n (Ok (from_int.One m)) = applied step (Int n) ≡ one (Int m)
AppliesToInt step n (Ok (from_int.Below end)) = applied step (Int n) ≡ Ok (ints_below end)
AppliesToInt step n (Ok (from_int.Times count)) = applied step (Int n) ≡ Ok (replicate count (Int n))
AppliesToInt step n (Ok from_int.Other) = Unit {0}
AppliesToInt step n (Err fault) = applied step (Int n) ≡ Err fault
