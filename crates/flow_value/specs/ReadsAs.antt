-- What reading a function gives: its steps, or the first text that is no step.
use Rattle.std.specs.Prelude.{ℕ, ◌≤◌, List, length, Result, Ok, Err}
use Rattle.flow_value.specs.Grammar.{AllSpelled, IsFirstBad}
use Rattle.flow_value.specs.declared.steps.Steps.{Steps}
use Rattle.flow_value.specs.declared.steps.StepsError.{StepsError}
use Rattle.flow_value.specs.declared.steps.StepsError.TheVariants.{BadStep, Memory}

abbrev pub ReadsAs : List (List ℕ) → Result Steps StepsError → Type 0
ReadsAs texts (Ok steps) = (length texts ≤ 16) × AllSpelled texts steps
ReadsAs texts (Err (BadStep place)) = IsFirstBad texts place
ReadsAs texts (Err Memory) = Unit {0}
