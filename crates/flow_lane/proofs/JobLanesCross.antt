-- The lanes of a block with their tables may go to another thread, and so may each lane with them.
use denote.Param.Send.{IsSend, IsSync, sendable, view_send}
use denote.Param.SendFields.{declared_send}
use denote.RattleType.{RattleType}
use denote.Struct.Declared as S
use denote.Struct.Record as Rec
use Rattle.std.proofs.Crossing.{crosses}
use Rattle.std.specs.declared.cmp.Eq as decides
use Rattle.std.specs.declared.cmp.PartialEq as eq
use Rattle.flow_value.specs.declared.work.Runs as runs
use Rattle.flow_lane.specs.contracts.block_lanes.BlockLanes as sides
use Rattle.flow_lane.specs.contracts.job_lane.JobLane as lane
use Rattle.flow_lane.specs.contracts.job_lane.JobLane.TheInside as lane_in
use Rattle.flow_lane.specs.contracts.job_lanes.JobLanes as lanes
use Rattle.flow_lane.specs.contracts.job_lanes.JobLanes.TheInside as lanes_in
use Rattle.flow_lane.specs.contracts.lane_end.LaneEnd as end
use Rattle.flow_lane.specs.contracts.table.Lane as table

-- both as records of their fields
module _ (W : RattleType) (w : runs.Ghosts W.Denot) (d : decides.Ghosts W.Denot) (e : eq.Ghosts W.Denot) where
  abbrev LanesFields : S.Declared
  LanesFields = Rec.declared (lanes_in.struct W w d e) (lanes_in.the_propositions W.Denot)

  abbrev LaneFields : S.Declared
  LaneFields = Rec.declared (lane_in.struct W w d e) (lane_in.the_propositions W.Denot)

  module _ (sent : IsSend (table.the_row W w e d)) (shared : IsSync (table.the_row W w e d)) where
    pub job_lanes_row : IsSend W → IsSync W → IsSend (sides.the_row W w e) → IsSend (lanes.the_row W w d e)
    job_lanes_row work works ends =
        view_send (S.row LanesFields) _ _ _ _
        (declared_send LanesFields (search (sendable, crosses) depth 18, (search (sendable, crosses) depth 18, (ends, tt))))

    pub job_lane_row : IsSend (end.the_row W w e) → IsSend (lane.the_row W w d e)
    job_lane_row ends =
        view_send (S.row LaneFields) _ _ _ _ (declared_send LaneFields (search (sendable, crosses) depth 18, (search (sendable, crosses) depth 18, (ends, tt))))
