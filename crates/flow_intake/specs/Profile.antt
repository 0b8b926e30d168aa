-- What a port does, told by what it comes to rather than by its order: what it answers, and whom it serves next.
use Rattle.std.specs.Prelude.{◌≡◌, ℕ, ◌+◌, ◌≤◌, ◌<◌, Bool, true, false, ◌↔◌, List, [], ◌∷◌, Some, None, is_some}
use Rattle.flow_value.specs.declared.message.MessageStatus.TheVariants.{Accepted, Declined, Postponed, DecliningPermanently}
use Rattle.flow_link.specs.Views.{LinkFacts}
use Rattle.flow_intake.specs.Port.{PortState, coming, has_room}
use Rattle.flow_intake.specs.Calls.{answer_to, next_place}
use Rattle.flow_intake.specs.PortLaw.{PortLaw}

-- the port takes a message at once: it takes messages and does not reserve, there is room, and no offer waits
pub record TakesAtOnce (port : PortState) : Type 0 where
  pub goes_on : port.refusing ≡ None
  pub freely : port.reserves ≡ false
  pub room : has_room port ≡ true
  pub nobody : port.queue ≡ []

-- what is answered to an offer; what may not be postponed is declined instead
pub record AnswersTell : Type 0 where
  pub declining : (may_postpone : Bool) (port : PortState) → (answer_to may_postpone port ≡ DecliningPermanently) ↔ (is_some port.refusing ≡ true)
  pub accepted : (may_postpone : Bool) (port : PortState) → (answer_to may_postpone port ≡ Accepted) ↔ TakesAtOnce port
  pub put_off : (port : PortState) → port.refusing ≡ None → ¬ TakesAtOnce port
      → (answer_to true port ≡ Postponed) × (answer_to false port ≡ Declined)

-- the port may consume an offer
pub record MayConsume (port : PortState) : Type 0 where
  pub goes_on : port.refusing ≡ None
  pub freely : port.reserves ≡ false
  pub room : has_room port ≡ true

-- whom it serves next
pub record OldestFirst : Type 0 where
  -- the offer that waits longest, and only with room
  pub oldest : (port : PortState) (place : ℕ) → next_place port ≡ Some place → MayConsume port × ((rest : List ℕ) × (port.queue ≡ place ∷ rest))
  -- it serves one, where it may and one waits
  pub served : (port : PortState) (place : ℕ) (rest : List ℕ) → MayConsume port → port.queue ≡ place ∷ rest → next_place port ≡ Some place

-- what it took and what comes add up to no more than the capacity, and one more is accepted only below it
pub record RoomAddsUp : Type 0 where
  pub within : (facts : ℕ → LinkFacts) (taken : ℕ) (port : PortState) (capacity : ℕ) → PortLaw facts taken port → port.capacity ≡ Some capacity
      → port.load + coming port ≤ capacity
  pub room : (port : PortState) (capacity : ℕ) → port.capacity ≡ Some capacity → (has_room port ≡ true) ↔ (port.load + coming port < capacity)
