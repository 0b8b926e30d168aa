use Rattle.std.proofs.Common.{subst}
use Rattle.flow_lane.specs.BlockLanes.{AreApart, LanesState}
use Rattle.flow_lane.proofs.block_lanes.BlockLanes.stand.Goals as goal

pub returns-clause-apart : goal.returns-clause-apart
returns-clause-apart g c = subst (λ (l : LanesState g.row.W.Denot). AreApart l.sides) c.self.view_is c.self.invariant.0
