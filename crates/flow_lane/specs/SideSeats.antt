-- What a seat has to be, to be a side of a lane.
use Rattle.std.specs.Prelude.{◌≡◌, List, [], ◌∷◌, ℕ, Option, Some, None}
use Rattle.atomic_table.specs.Seated.{TableId}
use Rattle.atomic_table.specs.Table.{Me}
use Rattle.flow_lane.specs.Views.{BlockStage, LaneStage, BlockView, LaneView, SeatView, block_in, lane_in}
use Rattle.flow_lane.specs.Sides.{BlockOf, LaneOf}
use Rattle.flow_lane.specs.Standing.{standing_of}
use Rattle.flow_lane.specs.declared.standing.Standing.{Standing}

module _ {J : Type 0} where
  -- no put is under way
  abbrev pub IsQuiet : BlockStage J → Type 0
  IsQuiet BlockStage.filling = ⊥
  IsQuiet _ = Unit {0}

module _ {J S : Type 0} where
  -- the slots that are out with a side
  abbrev pub block_slots : BlockStage J → List (ℕ × Option S)
  block_slots BlockStage.filling = (0, None) ∷ []
  block_slots (BlockStage.hand _) = (0, None) ∷ []
  block_slots _ = []

  abbrev pub lane_slots : LaneStage J → List (ℕ × Option S)
  lane_slots (LaneStage.working _) = (0, None) ∷ []
  lane_slots _ = []

  abbrev pub block_seat : BlockView J → Me (Option S) (SeatView J)
  block_seat b = (SeatView.block b, block_slots b.stage)

  abbrev pub lane_seat : LaneView J → Me (Option S) (SeatView J)
  lane_seat l = (SeatView.lane l, lane_slots l.stage)

  abbrev pub block_of : TableId → Me (Option S) (SeatView J) → BlockOf J
  block_of table me = record { table = table; side = block_in me.0 }

  abbrev pub lane_of : TableId → Me (Option S) (SeatView J) → LaneOf J
  lane_of table me = record { table = table; side = lane_in me.0 }

  -- a seat of a lane's table that knows what a side does, with the slots that are then out. The block's also tells where it stands
  pub record IsBlockSeat (ticket_of : J → ℕ) (table : TableId) (me : Me (Option S) (SeatView J)) (standing : Standing) : Type 0 where
    pub words : table.words ≡ 8
    pub slots : table.slots ≡ 1
    pub me_is : me ≡ block_seat (block_in me.0)
    pub quiet : IsQuiet (block_in me.0).stage
    pub told : standing_of ticket_of (block_in me.0).stage ≡ Some standing

  pub record IsLaneSeat (table : TableId) (me : Me (Option S) (SeatView J)) : Type 0 where
    pub words : table.words ≡ 8
    pub slots : table.slots ≡ 1
    pub me_is : me ≡ lane_seat (lane_in me.0)
