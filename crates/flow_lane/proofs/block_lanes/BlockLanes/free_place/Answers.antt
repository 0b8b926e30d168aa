use Rattle.flow_lane.proofs.FirstPlaces.{free_there}
use Rattle.flow_lane.proofs.block_lanes.BlockLanes.free_place.Goals as goal

pub returns-clause-free : goal.returns-clause-free
returns-clause-free g c = free_there c.args.self.now c.first_free.result c.first_free.ensures
