-- What a contract sees of a way out: the values that were received there, and what is in sight. What its calls make of
-- these, and what comes of waiting for them.
use Rattle.std.specs.Prelude.{◌≡◌, Bool, true, false, List, [], ◌∷◌, ◌++◌, Option, Some, None, Result, Ok, Err}
use Rattle.std.specs.declared.alloc.AllocError.{AllocError}
use Rattle.flow_value.specs.declared.value.Value.{Value}
use Rattle.flow_link.specs.declared.trace.Outcome.{Outcome}
use Rattle.flow_poll.specs.declared.receive.Received.{Received}
use Rattle.flow_poll.specs.declared.receive.Received.TheVariants as received
use Rattle.flow_poll.specs.declared.receive.Receipt.{Receipt}
use Rattle.flow_poll.specs.declared.receive.Receipt.TheVariants as receipt

-- nothing, or a message, or the end: it has ended so, and keeps nothing
pub data Sight : Type 0 where
  nothing : Sight
  message : Sight
  over : Outcome → Sight

pub record ReceiveView : Type 0 where
  -- the values that were received, in order
  pub received : List Value
  pub sight : Sight

-- whether a message is in sight; none where one may come yet
abbrev pub is_in_sight : Sight → Option Bool
is_in_sight Sight.nothing = None
is_in_sight Sight.message = Some true
is_in_sight (Sight.over how) = Some false

-- the end is not in sight
abbrev pub IsNotOver : Sight → Type 0
IsNotOver Sight.nothing = Unit {0}
IsNotOver Sight.message = Unit {0}
IsNotOver (Sight.over how) = ⊥

-- what has ended stays so
abbrev pub StaysOver : Sight → Sight → Type 0
StaysOver (Sight.over how) later = later ≡ Sight.over how
StaysOver before later = Unit {0}

-- what a receive answers
abbrev pub Gives : Received → ReceiveView → ReceiveView → Type 0
Gives received.Waiting old new = (new.received ≡ old.received) × IsNotOver new.sight
Gives (received.Message value) old new = new.received ≡ old.received ++ value ∷ []
Gives (received.Ended how) old new = (new.received ≡ old.received) × (new.sight ≡ Sight.over how)

-- what comes of waiting for a message
abbrev pub Receives : Result Receipt AllocError → ReceiveView → ReceiveView → Type 0
Receives (Ok (receipt.Message value)) old new = new.received ≡ old.received ++ value ∷ []
Receives (Ok (receipt.Ended how)) old new = (new.received ≡ old.received) × (new.sight ≡ Sight.over how)
Receives (Err fault) old new = new.received ≡ old.received

-- what comes of waiting until a message or the end is in sight
abbrev pub Awaits : Result Bool AllocError → ReceiveView → ReceiveView → Type 0
Awaits (Ok is_there) old new = (new.received ≡ old.received) × (is_in_sight new.sight ≡ Some is_there)
Awaits (Err fault) old new = new.received ≡ old.received
