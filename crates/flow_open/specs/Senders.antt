-- What a sender has left.
use Rattle.std.specs.Prelude.{Bool, true, false, List, [], ◌∷◌}
use Rattle.flow_value.specs.declared.value.Value.{Value}
use Rattle.flow_open.specs.declared.sender.SenderState.{SenderState}
use Rattle.flow_open.specs.declared.sender.SenderState.TheVariants.{Sending, Through, Refused, NotBegun}

abbrev pub is_sending : SenderState → Bool
is_sending Sending = true
is_sending Through = false
is_sending (Refused value) = false
is_sending (NotBegun value fault) = false

-- the value that came back
abbrev pub back_in : SenderState → List Value
back_in Sending = []
back_in Through = []
back_in (Refused value) = value ∷ []
back_in (NotBegun value fault) = value ∷ []
