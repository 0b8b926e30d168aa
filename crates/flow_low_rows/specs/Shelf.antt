-- What is in sight on a shelf of the tests.
use Rattle.std.specs.Prelude.{◌≡◌, List, [], ◌∷◌, Option, Some, None, refl}
use Rattle.flow_value.specs.declared.value.Value.{Value}
use Rattle.flow_link.specs.declared.trace.Outcome.{Outcome}
use Rattle.flow_poll.specs.Receives.{Sight, StaysOver}

-- the messages that it keeps, and how it ends behind them, if it does
abbrev pub sight_of : List Value → Option Outcome → Sight
sight_of [] None = Sight.nothing
sight_of [] (Some how) = Sight.over how
sight_of (value ∷ rest) ends = Sight.message

-- an empty shelf stays empty, and ends in the same way: so its end stays in sight
pub over_stays : (old new : List Value) (was is : Option Outcome) → (old ≡ [] → new ≡ []) → is ≡ was
    → StaysOver (sight_of old was) (sight_of new is)
over_stays [] new (Some how) is empty same = rw (empty refl, same) refl
over_stays [] new None is empty same = tt
over_stays (value ∷ rest) new was is empty same = tt
