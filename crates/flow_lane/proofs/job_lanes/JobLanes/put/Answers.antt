use Rattle.std.proofs.Common.{◌∙◌, sym, ap}
use Rattle.std.specs.List.{list_any}
use Rattle.flow_lane.specs.BlockLanes.{LanesState, has_room}
use Rattle.flow_lane.specs.Items.{state_of}
use Rattle.flow_lane.proofs.SharedLanes.{none_passes, stands_after}
use Rattle.flow_lane.proofs.job_lanes.JobLanes.put.Goals as goal

pub returns-in-Some-clause-stands : goal.returns-in-Some-clause-stands
returns-in-Some-clause-stands g c room =
    stands_after c.self.inside.sides c.put.new.self c.in-Some.place (state_of c.args.job) c.put.result c.in-Some.ensures.free c.put.ensures.may c.put.ensures.put c.put.ensures.kept

pub returns-in-None-clause-stands : goal.returns-in-None-clause-stands
returns-in-None-clause-stands g c room =
    absurd (let none = none_passes has_room c.self.inside.sides.sides (sym c.in-None.ensures.first) in
    let e = sym none ∙ ap (λ (l : LanesState g.row.W.Denot). list_any has_room l.sides) c.self.view_is ∙ room in cc)
