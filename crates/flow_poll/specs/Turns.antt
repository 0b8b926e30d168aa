-- What a contract sees of what goes on by turns: its journal, and what its turns come to, one after another.
use Rattle.std.specs.Prelude.{◌≡◌, ℕ, zero, suc, List, [], ◌∷◌, Result, Ok, Err}
use Rattle.std.specs.declared.alloc.AllocError.{AllocError}
use Rattle.flow_link.specs.declared.trace.Mark.{Mark}
use Rattle.flow_poll.specs.declared.actor.TurnState.{TurnState}
use Rattle.flow_poll.specs.declared.actor.TurnState.TheVariants.{Moved, Idle, Ended}
use Rattle.flow_poll.specs.declared.actor.Turned.{Turned}

-- a journal that goes on
abbrev pub Extends : List Mark → List Mark → Type 0
Extends [] new = Unit {0}
Extends (mark ∷ old) [] = ⊥
Extends (mark ∷ old) (other ∷ new) = (mark ≡ other) × Extends old new

module _ {A : Type 0} (goes_on : A → A → Type 0) where
  -- each, in order, is the same one later
  abbrev pub EachGoesOn : List A → List A → Type 0
  EachGoesOn [] [] = Unit {0}
  EachGoesOn (old ∷ olds) (new ∷ news) = goes_on old new × EachGoesOn olds news
  EachGoesOn _ _ = ⊥

-- it is the same one later, and its journal went on
pub record GoesFurther {A : Type 0} (journal : A → List Mark) (goes_on : A → A → Type 0) (old new : A) : Type 0 where
  pub extends : Extends (journal old) (journal new)
  pub same : goes_on old new

-- the state after a turn, if there was memory for it
abbrev pub state_after : Result Turned AllocError → Result TurnState AllocError
state_after (Ok turned) = Ok turned.state
state_after (Err fault) = Err fault

-- a turn by an actor with this budget, and the state after it
pub record TakesTurn {A : Type 0} (acts : A → ℕ → Result Turned AllocError → A → Type 0) (budget : ℕ)
    (old : A) (came : Result TurnState AllocError) (new : A) : Type 0 where
  pub turned : Result Turned AllocError
  pub acted : acts old budget turned new
  pub came_is : came ≡ state_after turned

-- the state of two: the first has moved, else the second counts, if it does anything yet
abbrev pub joint_state : TurnState → TurnState → TurnState
joint_state Moved second = Moved
joint_state Idle Moved = Moved
joint_state Idle Idle = Idle
joint_state Idle Ended = Idle
joint_state Ended second = second

-- where a turn came to this, it goes on so, or ends with that answer
abbrev pub ComesOf : Result TurnState AllocError → Type 0 → Type 0 → Type 0
ComesOf (Ok Moved) further ends = further
ComesOf (Ok Idle) further ends = ends
ComesOf (Ok Ended) further ends = ends
ComesOf (Err fault) further ends = ends

module _ {S : Type 0} (step : S → Result TurnState AllocError → S → Type 0) where
  -- at most so many steps, one after another, until one moved nothing or had no memory; the answer is that of the last.
  -- Moved says that the steps were used up
  abbrev pub IsDriven : ℕ → S → Result TurnState AllocError → S → Type 0
  IsDriven zero first answer last = (answer ≡ Ok Moved) × (last ≡ first)
  IsDriven (suc left) first answer last = (came : Result TurnState AllocError) × ((next : S) × (step first came next
      × ComesOf came (IsDriven left next answer last) ((answer ≡ came) × (last ≡ next))))

-- where a turn had memory, it goes on with the state after it, or else ends with that answer
abbrev pub AfterOne : Result TurnState AllocError → (TurnState → Type 0) → Type 0 → Type 0
AfterOne (Ok state) further ends = further state
AfterOne (Err fault) further ends = ends

module _ {A : Type 0} (step : A → Result TurnState AllocError → A → Type 0) where
  -- each takes one step, in order, until one has no memory: those behind it stay. The answer is the joint state of all,
  -- where that of those before them was this
  abbrev pub IsRound : TurnState → List A → Result TurnState AllocError → List A → Type 0
  IsRound before [] answer [] = answer ≡ Ok before
  IsRound before (old ∷ olds) answer (new ∷ news) = (came : Result TurnState AllocError) × (step old came new
      × AfterOne came (λ state. IsRound (joint_state before state) olds answer news) ((answer ≡ came) × (news ≡ olds)))
  IsRound before _ answer _ = ⊥
