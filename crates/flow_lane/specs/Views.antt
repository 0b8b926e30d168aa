-- What each side of a lane knows, where the lane is a table that the two share. J is all that a job has.
use Rattle.std.specs.Prelude.{◌≡◌, ◌⊎◌, Bool, true, false, List, [], ◌∷◌, ◌++◌}
use Rattle.flow_lane.specs.declared.phase.LanePhase.{LanePhase}
use Rattle.flow_lane.specs.declared.phase.LanePhase.TheVariants.{Free, Job, Working, Result, Fetching, Ended}

-- where the block's side stands
pub data BlockStage (J : Type 0) : Type 0 where
  -- nothing is in the lane
  free : BlockStage J
  -- it has the slot out, to lay in a job
  filling : BlockStage J
  -- it put this job, and has not seen the result
  sent : J → BlockStage J
  -- it has seen that the result is there
  ready : J → BlockStage J
  -- it has the result in hand
  hand : J → BlockStage J
  ended : BlockStage J

-- where the lane's side stands
pub data LaneStage (J : Type 0) : Type 0 where
  -- it has nothing, and has seen nothing since
  idle : LaneStage J
  -- it has seen a job
  arrived : LaneStage J
  -- it has this job in hand
  working : J → LaneStage J
  -- it has seen that no job comes any more
  ended : LaneStage J

-- an atomic step of a side on the word: it found this phase there and left it, or it stored this one
pub data Access : Type 0 where
  loaded : LanePhase → Access
  stored : LanePhase → Access

-- a side: where it stands, and its steps on the word, in order
pub record BlockView (J : Type 0) : Type 0 where
  pub stage : BlockStage J
  pub accesses : List Access

pub record LaneView (J : Type 0) : Type 0 where
  pub stage : LaneStage J
  pub accesses : List Access

-- one more step on the word
abbrev pub loads : List Access → LanePhase → List Access
loads accesses phase = accesses ++ Access.loaded phase ∷ []

abbrev pub stores : List Access → LanePhase → List Access
stores accesses phase = accesses ++ Access.stored phase ∷ []

-- what a seat of the table knows: that of a new table, and one that was spent, nothing
pub data SeatView (J : Type 0) : Type 0 where
  fresh : SeatView J
  block : BlockView J → SeatView J
  lane : LaneView J → SeatView J
  both : BlockView J → LaneView J → SeatView J
  spent : SeatView J

module _ {J : Type 0} where
  -- the two sides where a table begins
  abbrev pub starts_block : BlockView J
  starts_block = record { stage = BlockStage.free; accesses = [] }

  abbrev pub starts_lane : LaneView J
  starts_lane = record { stage = LaneStage.idle; accesses = [] }

  -- the side that a seat knows
  abbrev pub block_in : SeatView J → BlockView J
  block_in (SeatView.block b) = b
  block_in (SeatView.both b _) = b
  block_in _ = starts_block

  abbrev pub lane_in : SeatView J → LaneView J
  lane_in (SeatView.lane l) = l
  lane_in (SeatView.both _ l) = l
  lane_in _ = starts_lane

  -- how the two sides may stand at each phase
  abbrev pub Meet : LanePhase → BlockStage J → LaneStage J → Type 0
  Meet Free b l = ((b ≡ BlockStage.free) ⊎ (b ≡ BlockStage.filling)) × (l ≡ LaneStage.idle)
  Meet Job b l = (job : J) × (b ≡ BlockStage.sent job) × ((l ≡ LaneStage.idle) ⊎ (l ≡ LaneStage.arrived))
  Meet Working b l = (job : J) × (b ≡ BlockStage.sent job) × (l ≡ LaneStage.working job)
  Meet Result b l = (job : J) × ((b ≡ BlockStage.sent job) ⊎ (b ≡ BlockStage.ready job)) × (l ≡ LaneStage.idle)
  Meet Fetching b l = (job : J) × (b ≡ BlockStage.hand job) × (l ≡ LaneStage.idle)
  Meet Ended b l = (b ≡ BlockStage.ended) × ((l ≡ LaneStage.idle) ⊎ (l ≡ LaneStage.ended))

  -- nothing is in the lane
  abbrev pub is_free : BlockStage J → Bool
  is_free BlockStage.free = true
  is_free _ = false

  -- it put a job, and has not seen the result
  abbrev pub is_sent : BlockStage J → Bool
  is_sent (BlockStage.sent _) = true
  is_sent _ = false

  -- it has seen that the result is there
  abbrev pub is_ready : BlockStage J → Bool
  is_ready (BlockStage.ready _) = true
  is_ready _ = false

  -- it has the result in hand
  abbrev pub has_in_hand : BlockStage J → Bool
  has_in_hand (BlockStage.hand _) = true
  has_in_hand _ = false

  -- it has a job in hand
  abbrev pub is_working : LaneStage J → Bool
  is_working (LaneStage.working _) = true
  is_working _ = false

  -- where a side stands that has just looked, by the phase that it found
  abbrev pub StandsAsBlock : LanePhase → BlockStage J → Type 0
  StandsAsBlock Free b = b ≡ BlockStage.free
  StandsAsBlock Job b = is_sent b ≡ true
  StandsAsBlock Working b = is_sent b ≡ true
  StandsAsBlock Result b = is_ready b ≡ true
  StandsAsBlock Fetching b = has_in_hand b ≡ true
  StandsAsBlock Ended b = b ≡ BlockStage.ended

  abbrev pub StandsAsLane : LanePhase → LaneStage J → Type 0
  StandsAsLane Free l = l ≡ LaneStage.idle
  StandsAsLane Job l = l ≡ LaneStage.arrived
  StandsAsLane Working l = is_working l ≡ true
  StandsAsLane Result l = l ≡ LaneStage.idle
  StandsAsLane Fetching l = l ≡ LaneStage.idle
  StandsAsLane Ended l = l ≡ LaneStage.ended

  -- what the table may show a side that stands so
  abbrev pub FoundByBlock : LanePhase → BlockStage J → Type 0
  FoundByBlock phase stage = (lane : LaneStage J) × Meet phase stage lane

  abbrev pub FoundByLane : LanePhase → LaneStage J → Type 0
  FoundByLane phase stage = (block : BlockStage J) × Meet phase block stage
