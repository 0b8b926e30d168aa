-- The thread's end of a lane: its side, and the job in its hand.
use Rattle.std.specs.Prelude.{◌≡◌, ℕ, Option, Some, None}
use Rattle.flow_lane.specs.declared.lane_end.Hand.{Hand}
use Rattle.flow_lane.specs.declared.lane_end.Hand.TheVariants as hand
use Rattle.flow_lane.specs.declared.phase.LanePhase.{LanePhase}
use Rattle.flow_lane.specs.declared.phase.LanePhase.TheVariants.{Job}
use Rattle.flow_lane.specs.Items.{JobState, state_of}
use Rattle.flow_lane.specs.Sides.{LaneOf, lane_looked, opening}
use Rattle.flow_lane.specs.Views.{LaneStage, LaneView, FoundByLane}

module _ {J : Type 0} where
  -- what a look that found this phase makes of a side that has nothing in hand: a job that has arrived is opened at once
  abbrev pub Takes : LanePhase → LaneView J → LaneView J → Type 0
  Takes Job before after = (job : J) × (after ≡ opening job (lane_looked Job before))
  Takes phase before after = after ≡ lane_looked phase before

  pub record TakesWhatIsThere (before after : LaneOf J) : Type 0 where
    pub phase : LanePhase
    pub found : FoundByLane phase before.side.stage
    pub table : after.table ≡ before.table
    pub takes : Takes phase before.side after.side

module _ {W : Type 0} where
  -- where a side stands whose thread has this
  abbrev pub stage_with : Hand W → LaneStage (JobState W)
  stage_with hand.Nothing = LaneStage.idle
  stage_with (hand.Job job) = LaneStage.working (state_of job)
  stage_with hand.Ended = LaneStage.ended

  -- the ticket of the job in hand
  abbrev pub ticket_in_hand : LaneStage (JobState W) → Option ℕ
  ticket_in_hand LaneStage.idle = None
  ticket_in_hand LaneStage.arrived = None
  ticket_in_hand (LaneStage.working job) = Some job.ticket
  ticket_in_hand LaneStage.ended = None
