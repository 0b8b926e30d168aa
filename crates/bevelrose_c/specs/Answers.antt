-- What a call from another language answers: a status, and a text in the caller's room.
use Rattle.std.specs.Prelude.{◌≡◌, ◌<◌, ◌≤◌, ◌⊎◌, ◌++◌, ℕ, Bool, List, [], length, drop, Option, None, Some, option_map}
use Rattle.flow_value.specs.declared.steps.Steps.{Steps}
use Rattle.flow_link.specs.Layout.{Layout}
use Rattle.flow_link.specs.Planned.{layout_of}
use Rattle.flow_net.specs.declared.settled.Settled.{Settled}
use Rattle.flow_fault_text.specs.declared.fault.TextRefusal.{TextRefusal}
use Rattle.flow_plan_text.specs.Plan.{IsPlannedAs, IsUnplannedFor}
use Rattle.bevelrose_c.specs.Ran.{IsReported, IsUnreported, OfHeld, run_status}
use Rattle.bevelrose_c.specs.Refusal.{refusal_of, refusal_status, refusal_text}
use Rattle.bevelrose_c.specs.declared.network.Network.{Network}
use Rattle.bevelrose_c.specs.declared.refusal.Refusal.{Refusal}
use Rattle.bevelrose_c.specs.declared.refusal.Refusal.TheVariants.{Memory, Closed}

-- the plan of the network that is held, if one is
abbrev pub plan_in : Option Network → Option (Layout Steps)
plan_in None = None
plan_in (Some network) = option_map layout_of network.plan

-- the text stands at the front of the room where it fits, and else the room is as it was; the size is the text's
pub record IsGiven (text old new : List ℕ) (size : ℕ) : Type 0 where
  pub size_is : size ≡ length text
  pub fits : length text ≤ length old → new ≡ text ++ drop (length text) old
  pub is_small : length old < length text → new ≡ old

-- the answer is this status, and this text is given
pub record Answers (old new : List ℕ) (size status : ℕ) (text : List ℕ) (code : ℕ) : Type 0 where
  pub status_is : status ≡ code
  pub given : IsGiven text old new size

-- what a call answers, of each text and status that it may answer with
abbrev pub Answer : Type 1
Answer = List ℕ → ℕ → Type 0

module _ (Says : Answer) where
  -- it tells of this refusal
  abbrev pub Tells : Refusal → Type 0
  Tells refusal = Says (refusal_text refusal) (refusal_status refusal)

  -- or that there was no memory to tell of it
  abbrev pub TellsOrLacks : Refusal → Type 0
  TellsOrLacks refusal = Tells refusal ⊎ Tells Memory

  -- the text is a network, and status 0 says so; or it is refused, and told why
  abbrev pub IsChecked : List ℕ → Type 0
  IsChecked text =
      ((layout : Layout Steps) × IsPlannedAs text layout × Says [] 0)
      ⊎ ((refusal : TextRefusal) × IsUnplannedFor text refusal × Tells (refusal_of refusal))

  -- the text is a network, which is held from now on; or it is refused, and what was held is held still
  abbrev pub IsOpened : List ℕ → Option Network → Option Network → Type 0
  IsOpened text old new =
      ((layout : Layout Steps) × IsPlannedAs text layout × (plan_in new ≡ Some layout) × Says [] 0)
      ⊎ ((refusal : TextRefusal) × IsUnplannedFor text refusal × (new ≡ old) × Tells (refusal_of refusal))

  -- a run of the plan, and its report; or why there is none
  abbrev pub IsRun : List ℕ → ℕ → Layout Steps → Type 0
  IsRun records limit plan =
      ((settled : Settled) × (complete : Bool) × (written : List ℕ) × IsReported plan records limit settled complete written × Says written (run_status settled complete))
      ⊎ ((refusal : Refusal) × IsUnreported plan records limit refusal × Tells refusal)

  -- no network is held, or the one that is held is run
  abbrev pub IsRunIn : Option Network → List ℕ → ℕ → Type 0
  IsRunIn held records limit = ((plan_in held ≡ None) × TellsOrLacks Closed) ⊎ OfHeld (plan_in held) (IsRun records limit)
