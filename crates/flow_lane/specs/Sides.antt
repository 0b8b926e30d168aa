-- The two sides of a lane's table, as contracts see them, and how each move changes them.
use Rattle.std.specs.Prelude.{◌≡◌, ◌≢◌}
use Rattle.atomic_table.specs.Seated.{TableId}
use Rattle.flow_lane.specs.declared.phase.LanePhase.{LanePhase}
use Rattle.flow_lane.specs.declared.phase.LanePhase.TheVariants.{Free, Job, Working, Result, Fetching, Ended}
use Rattle.flow_lane.specs.Views.{BlockStage, LaneStage, BlockView, LaneView, FoundByBlock, loads, stores}

-- a side, and the table that it is of
pub record BlockOf (J : Type 0) : Type 0 where
  pub table : TableId
  pub side : BlockView J

pub record LaneOf (J : Type 0) : Type 0 where
  pub table : TableId
  pub side : LaneView J

module _ {J : Type 0} where
  -- Looks

  -- what a look makes of a stage
  abbrev pub block_finds : BlockStage J → LanePhase → BlockStage J
  block_finds (BlockStage.sent job) Result = BlockStage.ready job
  block_finds stage _ = stage

  abbrev pub lane_finds : LaneStage J → LanePhase → LaneStage J
  lane_finds LaneStage.idle Job = LaneStage.arrived
  lane_finds LaneStage.idle Ended = LaneStage.ended
  lane_finds stage _ = stage

  -- a side looked, and found this phase
  abbrev pub block_looked : LanePhase → BlockView J → BlockView J
  block_looked phase b = record { stage = block_finds b.stage phase; accesses = loads b.accesses phase }

  abbrev pub lane_looked : LanePhase → LaneView J → LaneView J
  lane_looked phase l = record { stage = lane_finds l.stage phase; accesses = loads l.accesses phase }

  -- Moves of the block

  -- it found this phase, and stands so now
  abbrev pub block_read : LanePhase → BlockStage J → BlockView J → BlockView J
  block_read phase stage b = record { stage = stage; accesses = loads b.accesses phase }

  -- it stored this phase, and stands so now
  abbrev pub block_wrote : LanePhase → BlockStage J → BlockView J → BlockView J
  block_wrote phase stage b = record { stage = stage; accesses = stores b.accesses phase }

  -- it found the lane free, and has the slot out
  abbrev pub filling : BlockView J → BlockView J
  filling b = block_read Free BlockStage.filling b

  abbrev pub putting : J → BlockView J → BlockView J
  putting job b = block_wrote Job (BlockStage.sent job) (filling b)

  abbrev pub fetching : J → BlockView J → BlockView J
  fetching job b = block_wrote Fetching (BlockStage.hand job) b

  abbrev pub clearing : BlockView J → BlockView J
  clearing b = block_wrote Free BlockStage.free b

  abbrev pub ending : BlockView J → BlockView J
  ending b = block_wrote Ended BlockStage.ended b

  -- a put found another phase than Free, and changed nothing
  pub record FoundNotFree (before after : BlockOf J) : Type 0 where
    pub phase : LanePhase
    pub other : phase ≢ Free
    pub found : FoundByBlock phase before.side.stage
    pub side : after ≡ record { table = before.table; side = block_read phase before.side.stage before.side }

  -- Moves of the lane

  -- it stored this phase, and stands so now
  abbrev pub lane_wrote : LanePhase → LaneStage J → LaneView J → LaneView J
  lane_wrote phase stage l = record { stage = stage; accesses = stores l.accesses phase }

  abbrev pub opening : J → LaneView J → LaneView J
  opening job l = lane_wrote Working (LaneStage.working job) l

  abbrev pub finishing : LaneView J → LaneView J
  finishing l = lane_wrote Result LaneStage.idle l
