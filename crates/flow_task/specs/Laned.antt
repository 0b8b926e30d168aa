-- What goes through the lanes of a block: which results it takes back, and when its lanes leave nothing to do.
use Rattle.std.specs.Prelude.{◌≡◌, ◌⊎◌, ℕ, ◌==◌, Bool, true, false, not, cond, count_by, List, Option, Some, None, Result, Ok, Err}
use Rattle.std.specs.List.{list_all, list_any}
use Rattle.flow_value.specs.declared.value.Value.{Value}
use Rattle.flow_link.specs.Layout.{Layout}
use Rattle.flow_link.specs.Plan.{block_in}
use Rattle.flow_block.specs.Block.{job_message}
use Rattle.flow_block.specs.Jobs.{is_out}
use Rattle.flow_block.specs.Node.{NodeState}
use Rattle.flow_block.specs.Peeks.{may_begin, may_end}
use Rattle.flow_block_law.specs.JobsEnd.{after_job}
use Rattle.flow_exec.specs.Execution.{SameWork}
use Rattle.flow_exec.specs.declared.job.Job.{Job}
use Rattle.flow_lane.specs.BlockLanes.{LanesState, has_ended, has_room, has_ticket, job_at, stage_at, with_free_ended}
use Rattle.flow_lane.specs.Items.{JobState, state_of}
use Rattle.flow_poll.specs.declared.actor.TurnState.{TurnState}
use Rattle.flow_poll.specs.declared.actor.TurnState.TheVariants as turn
use Rattle.flow_task.specs.Events.{Follows}
use Rattle.flow_task.specs.Turns.{JobsAreDone}

-- a job of a block that is out, of the message with that ticket, by the block's own work
pub record IsOwn {W : Type 0} (equal : W → W → Bool) (layout : Layout W) (b : ℕ) (node : NodeState) (job : JobState W) : Type 0 where
  pub out : may_end job.ticket node.block ≡ true
  pub kind : job.kind ≡ node.block.kind
  pub message : job.message ≡ job_message job.ticket node.block
  pub work : SameWork equal (block_in layout.blocks b).work job.work

abbrev pub IsOwnJob : {W : Type 0} → (W → W → Bool) → Layout W → ℕ → NodeState → Job W → Type 0
IsOwnJob equal layout b node job = IsOwn equal layout b node (state_of job)

-- the job with this ticket ends; where it doesn't, the node is as it was
abbrev pub TakesBack : {E : Type 0} → (Value → Result (List Value) ℕ) → ℕ → Result Bool E → NodeState → NodeState → Type 0
TakesBack makes ticket (Ok true) old new = Follows (may_end ticket old.block ≡ true) (new ≡ after_job makes ticket old)
TakesBack makes ticket (Ok false) old new = new ≡ old
TakesBack makes ticket (Err refused) old new = new ≡ old

-- each job of the block's own that stood in a lane stands there still, or it was taken back
abbrev pub OwnJobsStay : {W : Type 0} → (W → W → Bool) → Layout W → ℕ → (Value → Result (List Value) ℕ) → NodeState → NodeState
    → LanesState W → LanesState W → Type 0
OwnJobsStay {W} equal layout b makes old new lanes after =
    (place : ℕ) (job : JobState W) → job_at (stage_at place lanes) ≡ Some job → IsOwn equal layout b old job
    → (job_at (stage_at place after) ≡ Some job) ⊎ (new ≡ after_job makes job.ticket old)

module _ {W : Type 0} where
  -- each ticket that stands in a lane is out
  abbrev pub LanesAreOut : NodeState → LanesState W → Type 0
  LanesAreOut node lanes = (ticket : ℕ) → list_any (has_ticket ticket) lanes.sides ≡ true → is_out ticket node.block.jobs ≡ true

  -- it stays so, if it was so
  abbrev pub LanesStayOut : NodeState → NodeState → LanesState W → LanesState W → Type 0
  LanesStayOut old new lanes after = LanesAreOut old lanes → LanesAreOut new after

  -- while a lane is free, no job may begin
  abbrev pub BeginIsDone : NodeState → LanesState W → Type 0
  BeginIsDone node lanes = list_any has_room lanes.sides ≡ true → may_begin node.block ≡ false

  -- while nothing is in the lanes, no job is out, but for want of message ids
  abbrev pub JobsEndInPlace : (Value → Result (List Value) ℕ) → NodeState → LanesState W → Type 0
  JobsEndInPlace makes node lanes = list_all has_room lanes.sides ≡ true → JobsAreDone makes node

  -- the lanes leave nothing to do
  pub record LanesRest (makes : Value → Result (List Value) ℕ) (node : NodeState) (lanes : LanesState W) : Type 0 where
    pub jobs : JobsEndInPlace makes node lanes
    pub begin : BeginIsDone node lanes

  -- a job with this ticket stands in one of the lanes, if there are any
  abbrev pub stands_in : ℕ → Option (LanesState W) → Bool
  stands_in ticket None = false
  stands_in ticket (Some lanes) = list_any (has_ticket ticket) lanes.sides

  -- no job comes to the lanes any more, if there are any
  abbrev pub are_lanes_over : Option (LanesState W) → Bool
  are_lanes_over None = true
  are_lanes_over (Some lanes) = list_all has_ended lanes.sides

  -- other lanes are ended than before, if there are any
  abbrev pub are_more_ended : Option (LanesState W) → Option (LanesState W) → Bool
  are_more_ended (Some lanes) (Some after) = not (count_by has_ended lanes.sides == count_by has_ended after.sides)
  are_more_ended _ _ = false

  -- nothing was done to the lanes, or those in which nothing was are ended
  abbrev pub OnlyEnd : Option (LanesState W) → Option (LanesState W) → Type 0
  OnlyEnd (Some lanes) (Some after) = (after ≡ lanes) ⊎ (after ≡ with_free_ended lanes)
  OnlyEnd None None = Unit {0}
  OnlyEnd _ _ = ⊥

-- a block's task has not ended before its lanes are over, and a turn that ended lanes did something
abbrev pub state_with : (more over : Bool) → TurnState → TurnState
state_with more over turn.Moved = turn.Moved
state_with more over turn.Idle = cond more turn.Moved turn.Idle
state_with more over turn.Ended = cond more turn.Moved (cond over turn.Ended turn.Idle)

abbrev pub is_ended : TurnState → Bool
is_ended turn.Moved = false
is_ended turn.Idle = false
is_ended turn.Ended = true
