-- What is begun at a desk of the tests.
use Rattle.std.specs.Prelude.{Bool, List, [], ◌∷◌, Option, Some, None}
use Rattle.flow_value.specs.declared.value.Value.{Value}
use Rattle.flow_poll.specs.Sends.{Begun}

-- at most one value, which may be put off or not
abbrev pub begun_of : Option Value → Bool → List Begun
begun_of None may_postpone = []
begun_of (Some value) may_postpone = record { value = value; may_postpone = may_postpone } ∷ []
