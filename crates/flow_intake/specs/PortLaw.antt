-- When a port is in order.
use Rattle.std.specs.Prelude.{◌≡◌, ℕ, ◌+◌, ◌<◌, ◌≤◌, Bool, true, false, ◌==◌, List, [], ◌∷◌, length, Option, Some, None, is_some}
use Rattle.flow_link.specs.declared.stage.Refusal.{Refusal}
use Rattle.flow_link.specs.declared.stage.Refusal.TheVariants.{PortEnded, OwnFault}
use Rattle.flow_link.specs.declared.stage.TargetStage.{TargetStage}
use Rattle.flow_link.specs.declared.stage.TargetStage.TheVariants.{Postponed, Consuming, Asking, Holding, Claiming, Refused}
use Rattle.flow_link.specs.LinkOk.{IsWithin, MayPutOff}
use Rattle.flow_link.specs.Lists.{some}
use Rattle.flow_link.specs.Views.{LinkFacts}
use Rattle.flow_intake.specs.Port.{EndState, PortState, end_in, link_in, coming, is_coming, is_hand, is_queued}

-- the place stands in the queue
abbrev pub is_in : ℕ → List ℕ → Bool
is_in place queue = some (λ other. other == place) queue

-- no place stands there twice
abbrev pub IsDistinct : List ℕ → Type 0
IsDistinct [] = Unit {0}
IsDistinct (place ∷ queue) = (is_in place queue ≡ false) × IsDistinct queue

-- all places are below a number
abbrev pub AreBelow : ℕ → List ℕ → Type 0
AreBelow count [] = Unit {0}
AreBelow count (place ∷ queue) = (place < count) × AreBelow count queue

abbrev pub has_ended : Option Refusal → Bool
has_ended (Some PortEnded) = true
has_ended (Some OwnFault) = false
has_ended None = false

abbrev pub is_refused : TargetStage → Bool
is_refused (Refused _) = true
is_refused _ = false

-- the message was not taken when it was offered
abbrev pub puts_off : TargetStage → Bool
puts_off (Postponed _) = true
puts_off (Consuming _) = true
puts_off (Asking _) = true
puts_off (Holding _) = true
puts_off (Claiming _) = true
puts_off _ = false

-- an end of a port that took so many messages, over a link of which the plan says this
pub record InLaw (facts : LinkFacts) (taken : ℕ) (refusing : Option Refusal) (queue : List ℕ) (place : ℕ) (end : EndState) : Type 0 where
  -- it waits in the queue as long as its offer is postponed, asked for or held
  pub queued : is_in place queue ≡ is_queued end.stage
  pub hand : is_some end.hand ≡ is_hand end.stage
  -- it refuses only where the port takes no message any more
  pub refused : is_refused end.stage ≡ true → is_some refusing ≡ true
  -- no message comes into a port that has ended
  pub coming : is_coming end.stage ≡ true → has_ended refusing ≡ false
  pub put_off : puts_off end.stage ≡ true → MayPutOff facts taken

-- all ends are in order
abbrev pub EachIn : (ℕ → LinkFacts) → ℕ → Option Refusal → List ℕ → List EndState → Type 0
EachIn facts taken refusing queue ends = (place : ℕ) → place < length ends → InLaw (facts (link_in place ends)) taken refusing queue place (end_in place ends)

-- a port that took so many messages, where the plan says these facts of its links
pub record PortLaw (facts : ℕ → LinkFacts) (taken : ℕ) (port : PortState) : Type 0 where
  pub each : EachIn facts taken port.refusing port.queue port.ends
  pub distinct : IsDistinct port.queue
  pub known : AreBelow (length port.ends) port.queue
  -- what it took and what comes fit into its capacity
  pub room : IsWithin port.capacity (port.load + coming port)
  -- what waits has not given its room back
  pub waits : is_some port.capacity ≡ true → length port.waiting ≤ port.load
  pub took : port.load ≤ taken
