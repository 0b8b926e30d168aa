-- What a list of steps makes of a value: the first step's results, each handed to the rest of the steps.
use Rattle.std.specs.Prelude.{List, [], ◌∷◌, ◌++◌, Ok, Err}
use Rattle.flow_value.specs.Step.{Given, one, applied}
use Rattle.flow_value.specs.declared.step.Step.{Step}
use Rattle.flow_value.specs.declared.value.Value.{Value}

-- both results, one behind the other, or the first fault
abbrev pub joined : Given → Given → Given
joined (Ok us) (Ok vs) = Ok (us ++ vs)
joined (Ok us) (Err fault) = Err fault
joined (Err fault) _ = Err fault

-- the results of f at each value, in order
abbrev pub each : (Value → Given) → List Value → Given
each f [] = Ok []
each f (v ∷ vs) = joined (f v) (each f vs)

-- the results of f at each value that was given
abbrev pub then_each : Given → (Value → Given) → Given
then_each (Ok vs) f = each f vs
then_each (Err fault) f = Err fault

abbrev pub meaning_of : List Step → Value → Given
meaning_of [] v = one v
meaning_of (step ∷ rest) v = then_each (applied step v) (meaning_of rest)
