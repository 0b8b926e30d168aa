-- What a block with a function makes of the messages that it took: the results of those that it worked on, in order.
use Rattle.std.specs.Prelude.{◌≡◌, ℕ, List, ◌++◌, Some, Result}
use Rattle.flow_value.specs.declared.value.Value.{Value}
use Rattle.flow_link.specs.Lists.{concat}
use Rattle.flow_link.specs.Making.{results_of}

-- what was taken is worked on, or held; what was made are the results of the worked, in order
pub record WorkedInto (result : Value → Result (List Value) ℕ) (taken held made : List Value) : Type 0 where
  pub done : List Value
  pub results : List (List Value)
  pub taken_is : taken ≡ done ++ held
  pub worked : results_of result done ≡ Some results
  pub all : made ≡ concat results
