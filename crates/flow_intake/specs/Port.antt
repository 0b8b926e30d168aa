-- A port as plain data: its ends of links, what waits there, and what it has room for.
use Rattle.std.specs.Prelude.{ℕ, ◌+◌, Bool, true, false, ◌||◌, nat_lt, cond, List, [], ◌∷◌, get_or, Option, Some, None}
use Rattle.flow_value.specs.declared.value.Value.{Value}
use Rattle.flow_link.specs.declared.stage.Refusal.{Refusal}
use Rattle.flow_link.specs.declared.stage.TargetStage.{TargetStage}
use Rattle.flow_link.specs.declared.stage.TargetStage.TheVariants.{Free, Offered, Posted, Postponed, Accepted, Consuming, Asking, Holding, Claiming, Arrived, Hand}

-- the port's end of a link, and the message that it has in hand
pub record EndState : Type 0 where
  pub link : ℕ
  pub stage : TargetStage
  pub hand : Option Value

pub record PortState : Type 0 where
  pub ends : List EndState
  -- the places of the ends whose offers wait, oldest first
  pub queue : List ℕ
  -- what it took and nobody has taken on, oldest first
  pub waiting : List Value
  pub capacity : Option ℕ
  pub reserves : Bool
  -- how many messages it took whose room has not come back; they are counted only where there is a capacity
  pub load : ℕ
  pub refusing : Option Refusal
  -- memory is set aside for one more message
  pub ready : Bool

abbrev pub fresh_end : ℕ → EndState
fresh_end link = record { link = link; stage = Free; hand = None }

abbrev pub fresh_port : Option ℕ → PortState
fresh_port capacity = record { ends = []; queue = []; waiting = []; capacity = capacity; reserves = false; load = 0; refusing = None; ready = false }

-- the end at a place, its link, its stage, and what it has in hand
abbrev pub end_in : ℕ → List EndState → EndState
end_in place ends = get_or ends place (fresh_end 0)

abbrev pub link_in : ℕ → List EndState → ℕ
link_in place ends = (end_in place ends).link

abbrev pub stage_in : ℕ → List EndState → TargetStage
stage_in place ends = (end_in place ends).stage

abbrev pub hand_in : ℕ → List EndState → Option Value
hand_in place ends = (end_in place ends).hand

abbrev pub stage_at : ℕ → PortState → TargetStage
stage_at place port = stage_in place port.ends

-- it has not answered
abbrev pub is_offer : TargetStage → Bool
is_offer (Offered _) = true
is_offer (Posted _) = true
is_offer _ = false

-- the offer waits at the target, which may come back for it
abbrev pub is_queued : TargetStage → Bool
is_queued (Postponed _) = true
is_queued (Asking _) = true
is_queued (Holding _) = true
is_queued _ = false

-- the message comes, and its place is taken: it is wanted, or asked for or held, and not taken yet
abbrev pub is_coming : TargetStage → Bool
is_coming (Accepted _) = true
is_coming (Consuming _) = true
is_coming (Asking _) = true
is_coming (Holding _) = true
is_coming (Claiming _) = true
is_coming (Arrived _) = true
is_coming (Hand _) = true
is_coming _ = false

-- the message is wanted, and has not arrived
abbrev pub is_wanted : TargetStage → Bool
is_wanted (Accepted _) = true
is_wanted (Consuming _) = true
is_wanted (Claiming _) = true
is_wanted _ = false

-- the message is kept for the target
abbrev pub is_holding : TargetStage → Bool
is_holding (Holding _) = true
is_holding _ = false

-- the message is in hand
abbrev pub is_hand : TargetStage → Bool
is_hand (Hand _) = true
is_hand _ = false

-- memory is set aside for the message
abbrev pub is_owed : TargetStage → Bool
is_owed stage = is_queued stage || is_coming stage

-- how many ends stand so
abbrev pub count_at : (TargetStage → Bool) → List EndState → ℕ
count_at test [] = 0
count_at test (end ∷ ends) = cond (test end.stage) 1 0 + count_at test ends

abbrev pub coming : PortState → ℕ
coming port = count_at is_coming port.ends

-- one more fits beside so many
abbrev pub is_below : ℕ → Option ℕ → Bool
is_below count None = true
is_below count (Some capacity) = nat_lt count capacity

-- there is room for one more message
abbrev pub has_room : PortState → Bool
has_room port = is_below (port.load + coming port) port.capacity
