-- The lanes of a block, as contracts see them: the block's side of each, and whose result it keeps.
use Rattle.std.specs.Prelude.{◌≡◌, ◌≤◌, ℕ, Bool, true, false, cond, eqb, List, [], length, map, set, get_or, count_by, position, All, Option, Some, None, option_map}
use Rattle.std.specs.List.{list_any}
use Rattle.atomic_table.specs.Seated.{TableId}
use Rattle.flow_lane.specs.declared.phase.LanePhase.{LanePhase}
use Rattle.flow_lane.specs.Items.{JobState}
use Rattle.flow_lane.specs.Sides.{BlockOf, block_looked, ending, fetching}
use Rattle.flow_lane.specs.Views.{BlockStage, BlockView, FoundByBlock, is_free, is_sent, is_ready}

pub record LanesState (W : Type 0) : Type 0 where
  -- the block's side of each lane
  pub sides : List (BlockOf (JobState W))
  -- the place whose result was fetched and is kept
  pub kept : Option ℕ

abbrev pub is_ticket : ℕ → Option ℕ → Bool
is_ticket ticket None = false
is_ticket ticket (Some other) = eqb other ticket

-- no lane stands past the last one
abbrev pub no_table : TableId
no_table = record { words = 0; slots = 0; views_name = 0; atom = 0; block = 0; offset = 0; slot_names = [] }

module _ {W : Type 0} where
  -- the ticket of the job that stands in a lane
  abbrev pub ticket_at : BlockStage (JobState W) → Option ℕ
  ticket_at BlockStage.free = None
  ticket_at BlockStage.filling = None
  ticket_at (BlockStage.sent job) = Some job.ticket
  ticket_at (BlockStage.ready job) = Some job.ticket
  ticket_at (BlockStage.hand job) = Some job.ticket
  ticket_at BlockStage.ended = None

  -- the job that stands in a lane
  abbrev pub job_at : BlockStage (JobState W) → Option (JobState W)
  job_at BlockStage.free = None
  job_at BlockStage.filling = None
  job_at (BlockStage.sent job) = Some job
  job_at (BlockStage.ready job) = Some job
  job_at (BlockStage.hand job) = Some job
  job_at BlockStage.ended = None

  -- no job comes any more
  abbrev pub is_ended : BlockStage (JobState W) → Bool
  is_ended BlockStage.ended = true
  is_ended _ = false

  -- Of one side

  -- a job with this ticket stands in its lane
  abbrev pub has_ticket : ℕ → BlockOf (JobState W) → Bool
  has_ticket ticket side = is_ticket ticket (ticket_at side.side.stage)

  abbrev pub has_room : BlockOf (JobState W) → Bool
  has_room side = is_free side.side.stage

  abbrev pub has_result : BlockOf (JobState W) → Bool
  has_result side = is_ready side.side.stage

  abbrev pub has_ended : BlockOf (JobState W) → Bool
  has_ended side = is_ended side.side.stage

  -- Of all sides

  -- nothing is in any lane
  abbrev pub AreFree : List (BlockOf (JobState W)) → Type 0
  AreFree sides = All (λ side. side.side.stage ≡ BlockStage.free) sides

  -- the jobs that stand in the lanes
  abbrev pub jobs_of : List (BlockOf (JobState W)) → List (Option (JobState W))
  jobs_of sides = map (λ side. job_at side.side.stage) sides

  abbrev pub tables_of : List (BlockOf (JobState W)) → List TableId
  tables_of sides = map (λ side. side.table) sides

  -- no ticket stands in two lanes
  abbrev pub AreApart : List (BlockOf (JobState W)) → Type 0
  AreApart sides = (ticket : ℕ) → count_by (has_ticket ticket) sides ≤ 1

  abbrev pub no_side : BlockOf (JobState W)
  no_side = record { table = no_table; side = record { stage = BlockStage.ended; accesses = [] } }

  abbrev pub side_in : List (BlockOf (JobState W)) → ℕ → BlockOf (JobState W)
  side_in sides place = get_or sides place no_side

  -- the side at a place, and where it stands: past the last lane, none comes any more
  abbrev pub side_at : ℕ → LanesState W → BlockOf (JobState W)
  side_at place lanes = side_in lanes.sides place

  abbrev pub stage_at : ℕ → LanesState W → BlockStage (JobState W)
  stage_at place lanes = (side_at place lanes).side.stage

  -- one side changed
  abbrev pub changed : (BlockView (JobState W) → BlockView (JobState W)) → BlockOf (JobState W) → BlockOf (JobState W)
  changed change side = record { table = side.table; side = change side.side }

  abbrev pub with_side : ℕ → (BlockView (JobState W) → BlockView (JobState W)) → LanesState W → LanesState W
  with_side place change lanes =
      record { sides = set lanes.sides place (changed change (side_at place lanes)); kept = lanes.kept }

  -- a lane in which nothing is, is ended
  abbrev pub ended_where_free : BlockOf (JobState W) → BlockOf (JobState W)
  ended_where_free side = cond (has_room side) (changed ending side) side

  -- each of them is
  abbrev pub with_free_ended : LanesState W → LanesState W
  with_free_ended lanes = record { sides = map ended_where_free lanes.sides; kept = lanes.kept }

  -- What the calls ask and tell

  -- the lane at the place is free, and the job stands in none
  pub record MayPut (place ticket : ℕ) (lanes : LanesState W) : Type 0 where
    pub free : stage_at place lanes ≡ BlockStage.free
    pub nowhere : list_any (has_ticket ticket) lanes.sides ≡ false

  -- where a job was sent, the side looked once, and otherwise it did nothing
  pub record HasLooked (before after : BlockOf (JobState W)) : Type 0 where
    pub looked : is_sent before.side.stage ≡ true
        → (phase : LanePhase) × FoundByBlock phase before.side.stage × (after ≡ changed (block_looked phase) before)
    pub still : is_sent before.side.stage ≡ false → after ≡ before

  -- each side did so
  pub record HaveLooked (before after : LanesState W) : Type 0 where
    pub many : length after.sides ≡ length before.sides
    pub each : (place : ℕ) → HasLooked (side_at place before) (side_at place after)
    pub kept : after.kept ≡ before.kept

  -- the result of this job is taken out at its place, if there is one
  abbrev pub with_taken : Option (ℕ × JobState W) → LanesState W → LanesState W
  with_taken None lanes = lanes
  with_taken (Some next) lanes = with_side next.0 (fetching next.1) lanes

  -- each side looked, and the first result that is there then was taken out; none was, where none is there
  pub record TakesFirst (taken : Option (ℕ × JobState W)) (before after : LanesState W) : Type 0 where
    pub looked : LanesState W
    pub looks : HaveLooked before looked
    pub first : option_map (λ (next : ℕ × JobState W). next.0) taken ≡ position has_result looked.sides
    pub takes : after ≡ with_taken taken looked
