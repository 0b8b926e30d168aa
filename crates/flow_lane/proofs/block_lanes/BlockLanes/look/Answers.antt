use Rattle.std.proofs.Common.{arith}
use Rattle.flow_lane.proofs.FirstPlaces.{ready_there}
use Rattle.flow_lane.proofs.LanesStayApart.{many_lanes}
use Rattle.flow_lane.proofs.LooksGoOn.{all_looked, looks_on, none_looked}
use Rattle.flow_lane.proofs.block_lanes.BlockLanes.look.Goals as goal

pub loop-place-init : goal.loop-place-init
loop-place-init g c = record { tables = c.requires; so_far = none_looked c.args.self.now }

pub loop-place-preserved : goal.loop-place-preserved
loop-place-preserved g c = record {
  tables = c.look_at.ensures.tables;
  so_far = looks_on c.loop-place.place c.args.self.now c.loop-place.self c.look_at.new.self c.loop-place.invariant.so_far c.look_at.ensures.looked c.look_at.ensures.others;
}

pub returns-clause-looked : goal.returns-clause-looked
returns-clause-looked g c =
    let many = many_lanes c.args.self.now.sides c.args.lanes.now c.requires in
    all_looked c.loop-place.place c.args.self.now c.loop-place.self (omega (arith, many)) c.loop-place.invariant.so_far

pub returns-clause-ready : goal.returns-clause-ready
returns-clause-ready g c = ready_there c.loop-place.self c.first_ready.result c.first_ready.ensures
