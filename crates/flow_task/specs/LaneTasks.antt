-- What a turn of a lane's task does, and where the lane stands at its end.
use Rattle.std.specs.Prelude.{◌≡◌, ℕ, true, false, Option, option_map}
use Rattle.flow_lane.specs.LaneEnd.{TakesWhatIsThere, ticket_in_hand}
use Rattle.flow_lane.specs.Sides.{LaneOf, finishing}
use Rattle.flow_lane.specs.Views.{LaneStage, is_working}
use Rattle.flow_poll.specs.declared.actor.TurnState.{TurnState}
use Rattle.flow_poll.specs.declared.actor.TurnState.TheVariants.{Moved, Idle, Ended}
use Rattle.flow_task.specs.declared.lane_task.LaneTask.{LaneTask}

module _ {J : Type 0} where
  -- a job that was in hand is there still; where none was, it looked once, and took the job that had come
  pub record AsksForJob (before after : LaneOf J) : Type 0 where
    pub busy : is_working before.side.stage ≡ true → after ≡ before
    pub takes : is_working before.side.stage ≡ false → TakesWhatIsThere before after

  -- the job in hand was done
  pub record DoesJob (before after : LaneOf J) : Type 0 where
    pub in_hand : LaneOf J
    pub asked : AsksForJob before in_hand
    pub there : is_working in_hand.side.stage ≡ true
    pub done : after ≡ record { table = in_hand.table; side = finishing in_hand.side }

  -- Moved says that a job was done, and else none had come; where it says so, none comes any more
  abbrev pub LaneTurns : TurnState → LaneOf J → LaneOf J → Type 0
  LaneTurns Moved before after = DoesJob before after
  LaneTurns Idle before after = AsksForJob before after × (is_working after.side.stage ≡ false)
  LaneTurns Ended before after = AsksForJob before after × (after.side.stage ≡ LaneStage.ended)

-- the job in hand, by the number of its block and its ticket
abbrev pub job_of : {W : Type 0} → LaneTask W → Option (ℕ × ℕ)
job_of task = option_map (λ ticket. (task.its.block, ticket)) (ticket_in_hand task.its.lane.side.stage)
