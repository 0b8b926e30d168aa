use Rattle.flow_lane.proofs.LanesStayApart.{free_apart}
use Rattle.flow_lane.proofs.block_lanes.BlockLanes.new.Goals as goal

pub invariant_of-result : goal.invariant_of-result
invariant_of-result g c = (free_apart _ c.requires, λ kept is. absurd (cc))
