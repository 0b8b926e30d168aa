use Rattle.std.proofs.Common.{ap, ◌∙◌}
use Rattle.flow_lane.specs.BlockLanes.{LanesState}
use Rattle.flow_lane.proofs.JobsStay.{none_let_go}
use Rattle.flow_lane.proofs.job_lanes.JobLanes.next_result.Goals as goal

pub returns-in-Some-clause-looks : goal.returns-in-Some-clause-looks
returns-in-Some-clause-looks g c none = absurd (let e = c.in-Some.ensures.place ∙ ap (λ (l : LanesState g.row.W.Denot). l.kept) c.self.view_is ∙ none in cc)

pub returns-in-None-clause-looks : goal.returns-in-None-clause-looks
returns-in-None-clause-looks g c none =
    none_let_go _ c.self.inside.sides c.args.self.now c.take_kept.new.self c.fetch_next.new.self c.take_kept.ensures.rest c.self.view_is none
    c.fetch_next.ensures.looks
