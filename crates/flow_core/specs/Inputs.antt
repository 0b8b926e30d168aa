-- What the network leaves of its inputs.
use Rattle.std.specs.Prelude.{◌≡◌, ℕ, Bool, true, not, length, get_or, Option}
use Rattle.std.specs.Option.{ForSome}
use Rattle.flow_link.specs.Lists.{every}
use Rattle.flow_outlet.specs.Law.{is_posted}
use Rattle.flow_input.specs.Input.{InputState, InputCall, is_of_net, no_input}
use Rattle.flow_input.specs.InputKeeps.{PostedStays}
use Rattle.flow_core.specs.Events.{input_after}
use Rattle.flow_core.specs.State.{NetState}

-- an input changed by one call of the network, or not at all
pub record IsChanged (old new : InputState) : Type 0 where
  pub call : Option InputCall
  pub of_net : ForSome call (λ made. is_of_net made ≡ true)
  pub new_is : new ≡ input_after call old

abbrev pub input_of : NetState → ℕ → InputState
input_of net k = get_or net.inputs k no_input

pub record InputsAreChanged (old new : NetState) : Type 0 where
  pub count : length new.inputs ≡ length old.inputs
  pub each : (k : ℕ) → IsChanged (input_of old k) (input_of new k)

pub record InputsStay (old new : NetState) : Type 0 where
  pub count : length new.inputs ≡ length old.inputs
  pub each : (k : ℕ) → PostedStays (input_of old k) (input_of new k)

-- no value is posted to a target that has not answered
abbrev pub none_posted : NetState → Bool
none_posted net = every (λ input. not (is_posted input.stage)) net.inputs
