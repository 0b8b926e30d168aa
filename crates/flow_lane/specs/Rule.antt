-- The rule of a lane's table: its word stores a phase, and at each phase the slot and the two sides stand as said here.
-- J is all that a job has, Q a job, R a result, S what lies in the slot.
use Rattle.std.specs.Prelude.{◌≡◌, ◌⊎◌, List, [], ◌∷◌, Option, Some, None}
use mathlib.Core.Option as maybe
use Rattle.atomic_table.specs.Table.{State}
use Rattle.flow_lane.specs.declared.phase.LanePhase.{LanePhase}
use Rattle.flow_lane.specs.declared.phase.LanePhase.TheVariants.{Free, Job, Working, Result, Fetching, Ended}
use Rattle.flow_lane.specs.Phase.{word_of_phase, words_of}
use Rattle.flow_lane.specs.Views.{BlockStage, LaneStage, BlockView, LaneView, SeatView}

-- what stands at the slot's place: nothing, where a side has the slot out
abbrev pub Home : Type 0 → Type 0
Home S = maybe.Option (Option S)

module _ {J Q R S : Type 0} (as_job : Q → S) (as_result : R → S) (of_job : Q → J) (of_result : R → J) where
  pub record AtFree (home : Home S) (b : BlockStage J) (l : LaneStage J) : Type 0 where
    pub block : ((home ≡ maybe.some None) × (b ≡ BlockStage.free)) ⊎ ((home ≡ maybe.none) × (b ≡ BlockStage.filling))
    pub lane : l ≡ LaneStage.idle

  -- what is in the slot is the job that was put
  pub record AtJob (home : Home S) (b : BlockStage J) (l : LaneStage J) : Type 0 where
    pub job : Q
    pub home_is : home ≡ maybe.some (Some (as_job job))
    pub block : b ≡ BlockStage.sent (of_job job)
    pub lane : (l ≡ LaneStage.idle) ⊎ (l ≡ LaneStage.arrived)

  -- what the lane works on is the job that was put
  pub record AtWorking (home : Home S) (b : BlockStage J) (l : LaneStage J) : Type 0 where
    pub job : J
    pub home_is : home ≡ maybe.none
    pub block : b ≡ BlockStage.sent job
    pub lane : l ≡ LaneStage.working job

  -- what is in the slot is the result of the job that was put
  pub record AtResult (home : Home S) (b : BlockStage J) (l : LaneStage J) : Type 0 where
    pub done : R
    pub home_is : home ≡ maybe.some (Some (as_result done))
    pub block : (b ≡ BlockStage.sent (of_result done)) ⊎ (b ≡ BlockStage.ready (of_result done))
    pub lane : l ≡ LaneStage.idle

  pub record AtFetching (home : Home S) (b : BlockStage J) (l : LaneStage J) : Type 0 where
    pub job : J
    -- the slot is out with the block, or has come home empty, as the table is closed
    pub home_is : (home ≡ maybe.none) ⊎ (home ≡ maybe.some None)
    pub block : b ≡ BlockStage.hand job
    pub lane : l ≡ LaneStage.idle

  pub record AtEnded (home : Home S) (b : BlockStage J) (l : LaneStage J) : Type 0 where
    pub home_is : home ≡ maybe.some None
    pub block : b ≡ BlockStage.ended
    pub lane : (l ≡ LaneStage.idle) ⊎ (l ≡ LaneStage.ended)

  abbrev pub StandAt : LanePhase → Home S → BlockStage J → LaneStage J → Type 0
  StandAt Free = AtFree
  StandAt Job = AtJob
  StandAt Working = AtWorking
  StandAt Result = AtResult
  StandAt Fetching = AtFetching
  StandAt Ended = AtEnded

  -- a new table, its two sides, and the two put together
  pub record IsFresh (phase : LanePhase) (home : Home S) (views : List (SeatView J)) : Type 0 where
    pub views_are : views ≡ SeatView.fresh ∷ []
    pub home_is : home ≡ maybe.some None
    pub phase_is : phase ≡ Free

  pub record AreTwo (phase : LanePhase) (home : Home S) (views : List (SeatView J)) : Type 0 where
    pub block : BlockView J
    pub lane : LaneView J
    pub views_are : views ≡ SeatView.block block ∷ SeatView.lane lane ∷ []
    pub stand : StandAt phase home block.stage lane.stage

  pub record IsBoth (phase : LanePhase) (home : Home S) (views : List (SeatView J)) : Type 0 where
    pub block : BlockView J
    pub lane : LaneView J
    pub views_are : views ≡ SeatView.spent ∷ SeatView.both block lane ∷ []
    pub stand : StandAt phase home block.stage lane.stage

  pub record Ruled (z : State (Option S) (SeatView J)) : Type 0 where
    pub phase : LanePhase
    pub home : Home S
    pub words_are : z.words ≡ words_of (word_of_phase phase)
    pub homes_are : z.homes ≡ home ∷ []
    pub sides : IsFresh phase home z.views ⊎ AreTwo phase home z.views ⊎ IsBoth phase home z.views

  -- what a closed table gives at each phase, of two sides that stand so. At Working and at Fetching a side has the slot out,
  -- and the job or its result is with that side's owner
  abbrev pub Left : LanePhase → Option S → BlockStage J → LaneStage J → Type 0
  Left Free slot b l = (slot ≡ None) × (b ≡ BlockStage.free) × (l ≡ LaneStage.idle)
  Left Job slot b l = (job : Q) × (slot ≡ Some (as_job job)) × (b ≡ BlockStage.sent (of_job job)) × ((l ≡ LaneStage.idle) ⊎ (l ≡ LaneStage.arrived))
  Left Working slot b l = (job : J) × (slot ≡ None) × (b ≡ BlockStage.sent job) × (l ≡ LaneStage.working job)
  Left Result slot b l = (done : R) × (slot ≡ Some (as_result done)) × ((b ≡ BlockStage.sent (of_result done)) ⊎ (b ≡ BlockStage.ready (of_result done))) × (l ≡ LaneStage.idle)
  Left Fetching slot b l = (job : J) × (slot ≡ None) × (b ≡ BlockStage.hand job) × (l ≡ LaneStage.idle)
  Left Ended slot b l = (slot ≡ None) × (b ≡ BlockStage.ended) × ((l ≡ LaneStage.idle) ⊎ (l ≡ LaneStage.ended))

-- what was found where the slot lies, of a closed table: nothing counts where a side had it out
abbrev pub slot_at : {S : Type 0} → LanePhase → Option S → Option S
slot_at Working found = None
slot_at Fetching found = None
slot_at _ found = found
