-- What a block's side tells at run time of where it stands. J is all that a job has.
use Rattle.std.specs.Prelude.{ℕ, Bool, true, false, Option, Some, None}
use Rattle.flow_lane.specs.declared.phase.LanePhase.{LanePhase}
use Rattle.flow_lane.specs.declared.phase.LanePhase.TheVariants.{Result}
use Rattle.flow_lane.specs.declared.standing.Standing.{Standing}
use Rattle.flow_lane.specs.declared.standing.Standing.TheVariants.{Free, Sent, Ready, InHand, Ended}
use Rattle.flow_lane.specs.Views.{BlockStage}

-- what a look that found this phase makes of it
abbrev pub looked_at : Standing → LanePhase → Standing
looked_at (Sent ticket) Result = Ready ticket
looked_at standing _ = standing

-- the ticket of the job that was put
abbrev pub number_of : Standing → Option ℕ
number_of Free = None
number_of (Sent ticket) = Some ticket
number_of (Ready ticket) = Some ticket
number_of (InHand ticket) = Some ticket
number_of Ended = None

-- nothing is in the lane; the result was not seen; it was seen; no job comes any more
abbrev pub stands_free : Standing → Bool
stands_free Free = true
stands_free _ = false

abbrev pub stands_sent : Standing → Bool
stands_sent (Sent _) = true
stands_sent _ = false

abbrev pub stands_ready : Standing → Bool
stands_ready (Ready _) = true
stands_ready _ = false

abbrev pub stands_ended : Standing → Bool
stands_ended Ended = true
stands_ended _ = false

module _ {J : Type 0} (ticket_of : J → ℕ) where
  -- a stage, with the ticket of its job alone: that of a side whose put is under way is told by none
  abbrev pub standing_of : BlockStage J → Option Standing
  standing_of BlockStage.free = Some Free
  standing_of BlockStage.filling = None
  standing_of (BlockStage.sent job) = Some (Sent (ticket_of job))
  standing_of (BlockStage.ready job) = Some (Ready (ticket_of job))
  standing_of (BlockStage.hand job) = Some (InHand (ticket_of job))
  standing_of BlockStage.ended = Some Ended
