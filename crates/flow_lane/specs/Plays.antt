-- What each step on the table tells its side. J is all that a job has, Q a job, R a result, S what lies in the slot.
use Rattle.std.specs.Prelude.{◌≡◌, ℕ, [], ◌∷◌, Option, Some, None}
use Rattle.atomic_table.specs.Table.{Me, Step}
use Rattle.flow_lane.specs.declared.phase.LanePhase.{LanePhase}
use Rattle.flow_lane.specs.declared.phase.LanePhase.TheVariants.{Free, Job}
use Rattle.flow_lane.specs.Phase.{word_of_phase}
use Rattle.flow_lane.specs.Views.{BlockStage, SeatView, block_in, lane_in, FoundByBlock, FoundByLane}
use Rattle.flow_lane.specs.Sides.{block_looked, lane_looked, block_read, block_wrote, filling, fetching, clearing, ending, opening, finishing}

-- the lane's seat takes in what the block's knows
abbrev pub joined : {J : Type 0} → SeatView J → SeatView J → SeatView J
joined v w = SeatView.both (block_in w) (lane_in v)

module _ {J S : Type 0} where
  abbrev pub block_looks : Step (Option S) → Me (Option S) (SeatView J) → ℕ → Me (Option S) (SeatView J) → Type 0
  block_looks st m n m' = (phase : LanePhase) × (n ≡ word_of_phase phase) × (m' ≡ (SeatView.block (block_looked phase (block_in m.0)), m.1))
      × FoundByBlock phase (block_in m.0).stage

  abbrev pub lane_looks : Step (Option S) → Me (Option S) (SeatView J) → ℕ → Me (Option S) (SeatView J) → Type 0
  lane_looks st m n m' = (phase : LanePhase) × (n ≡ word_of_phase phase) × (m' ≡ (SeatView.lane (lane_looked phase (lane_in m.0)), m.1))
      × FoundByLane phase (lane_in m.0).stage

  -- the slot comes out where the lane is free, and only then
  abbrev pub slot_out : LanePhase → Me (Option S) (SeatView J) → Me (Option S) (SeatView J)
  slot_out Free m = (SeatView.block (filling (block_in m.0)), (0, None) ∷ m.1)
  slot_out phase m = (SeatView.block (block_read phase (block_in m.0).stage (block_in m.0)), m.1)

  abbrev pub takes_slot : Step (Option S) → Me (Option S) (SeatView J) → ℕ → Me (Option S) (SeatView J) → Type 0
  takes_slot st m n m' = (phase : LanePhase) × (n ≡ word_of_phase phase) × (m' ≡ slot_out phase m)
      × FoundByBlock phase (block_in m.0).stage

  abbrev pub cleared : Step (Option S) → Me (Option S) (SeatView J) → ℕ → Me (Option S) (SeatView J) → Type 0
  cleared st m n m' = m' ≡ (SeatView.block (clearing (block_in m.0)), [])

  abbrev pub ended : Step (Option S) → Me (Option S) (SeatView J) → ℕ → Me (Option S) (SeatView J) → Type 0
  ended st m n m' = m' ≡ (SeatView.block (ending (block_in m.0)), m.1)

  abbrev pub finished : Step (Option S) → Me (Option S) (SeatView J) → ℕ → Me (Option S) (SeatView J) → Type 0
  finished st m n m' = m' ≡ (SeatView.lane (finishing (lane_in m.0)), [])

  -- the slot that the block has out, if any, comes home, whatever the phase
  abbrev pub parted : Step (Option S) → Me (Option S) (SeatView J) → ℕ → Me (Option S) (SeatView J) → Type 0
  parted st m n m' = m' ≡ (SeatView.block (block_in m.0), [])

module _ {J Q R S : Type 0} (as_job : Q → S) (as_result : R → S) (of_job : Q → J) (of_result : R → J) where
  abbrev pub put : Step (Option S) → Me (Option S) (SeatView J) → ℕ → Me (Option S) (SeatView J) → Type 0
  put st m n m' = (job : Q) → m.1 ≡ (0, Some (as_job job)) ∷ []
      → m' ≡ (SeatView.block (block_wrote Job (BlockStage.sent (of_job job)) (block_in m.0)), [])

  abbrev pub fetched : Step (Option S) → Me (Option S) (SeatView J) → ℕ → Me (Option S) (SeatView J) → Type 0
  fetched st m n m' = (done : R) × ((block_in m.0).stage ≡ BlockStage.ready (of_result done))
      × (m' ≡ (SeatView.block (fetching (of_result done) (block_in m.0)), (0, Some (as_result done)) ∷ []))

  abbrev pub opened : Step (Option S) → Me (Option S) (SeatView J) → ℕ → Me (Option S) (SeatView J) → Type 0
  opened st m n m' = (job : Q) × (m' ≡ (SeatView.lane (opening (of_job job) (lane_in m.0)), (0, Some (as_job job)) ∷ []))
