-- The lanes of a block may go to another thread, and so may the end of a lane.
use denote.Param.Send.{IsSend, sendable, view_send}
use denote.Param.SendFields.{declared_send, variants_send}
use denote.RattleType.{RattleType}
use denote.Struct.Declared as S
use denote.Struct.Record as Rec
use Rattle.std.proofs.Crossing.{crosses}
use Rattle.std.specs.declared.cmp.PartialEq as eq
use Rattle.flow_value.specs.declared.work.Runs as runs
use Rattle.flow_exec.specs.contracts.job.Job as job
use Rattle.flow_exec.specs.contracts.result.JobResult as done
use Rattle.flow_lane.specs.contracts.block_lanes.BlockLanes as lanes
use Rattle.flow_lane.specs.contracts.block_lanes.BlockLanes.TheInside as lanes_in
use Rattle.flow_lane.specs.contracts.block_side.BlockSide as block
use Rattle.flow_lane.specs.contracts.lane_end.Hand as hand
use Rattle.flow_lane.specs.contracts.lane_end.LaneEnd as end
use Rattle.flow_lane.specs.contracts.lane_end.LaneEnd.TheInside as end_in
use Rattle.flow_lane.specs.contracts.lane_side.LaneSide as side

-- both as records of their fields
module _ (W : RattleType) (w : runs.Ghosts W.Denot) (e : eq.Ghosts W.Denot) where
  abbrev LanesFields : S.Declared
  LanesFields = Rec.declared (lanes_in.struct W w e) (lanes_in.the_propositions W.Denot w e)

  abbrev EndFields : S.Declared
  EndFields = Rec.declared (end_in.struct W w e) (end_in.the_propositions W.Denot)

  pub lanes_row : IsSend (block.the_row W w e) → IsSend (done.the_row W w e) → IsSend (lanes.the_row W w e)
  lanes_row sides results =
      view_send (S.row LanesFields) _ _ _ _
      (declared_send LanesFields (search (sendable, crosses) depth 9, (search (sendable, crosses) depth 18, tt)))

  hand_row : IsSend (job.the_row W) → IsSend (hand.the_row W)
  hand_row jobs = variants_send (hand.enum W) (tt, ((jobs, tt), (tt, tt)))

  pub end_row : IsSend (side.the_row W w e) → IsSend (job.the_row W) → IsSend (end.the_row W w e)
  end_row sides jobs = view_send (S.row EndFields) _ _ _ _ (declared_send EndFields (sides, (hand_row jobs, tt)))
