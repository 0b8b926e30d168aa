use Rattle.std.proofs.Common.{refl, ap, subst, ◌∙◌}
use Rattle.flow_lane.specs.BlockLanes.{HaveLooked, LanesState, jobs_of}
use Rattle.flow_lane.specs.Items.{state_in}
use Rattle.flow_lane.proofs.JobsStay.{fetched_jobs, looked_jobs}
use Rattle.flow_lane.proofs.job_lanes.JobLanes.fetch_next.Goals as goal

pub returns-in-Some-clause-jobs : goal.returns-in-Some-clause-jobs
returns-in-Some-clause-jobs g c =
    fetched_jobs c.look.new.self c.fetch.new.self c.in-Some.place (state_in c.fetch.result) c.fetch.ensures.of_job c.fetch.ensures.side
    ∙ looked_jobs c.self.inside.sides c.look.new.self c.look.ensures.looked ∙ ap (λ (l : LanesState g.row.W.Denot). jobs_of l.sides) c.self.view_is

pub returns-in-None-clause-jobs : goal.returns-in-None-clause-jobs
returns-in-None-clause-jobs g c =
    looked_jobs c.self.inside.sides c.look.new.self c.look.ensures.looked ∙ ap (λ (l : LanesState g.row.W.Denot). jobs_of l.sides) c.self.view_is

pub returns-in-Some-clause-looks : goal.returns-in-Some-clause-looks
returns-in-Some-clause-looks g c = record {
  looked = c.look.new.self;
  looks = subst (λ (l : LanesState g.row.W.Denot). HaveLooked l c.look.new.self) c.self.view_is c.look.ensures.looked;
  first = c.in-Some.ensures.first;
  takes = c.fetch.ensures.side;
}

pub returns-in-None-clause-looks : goal.returns-in-None-clause-looks
returns-in-None-clause-looks g c = record {
  looked = c.look.new.self;
  looks = subst (λ (l : LanesState g.row.W.Denot). HaveLooked l c.look.new.self) c.self.view_is c.look.ensures.looked;
  first = c.in-None.ensures.first;
  takes = refl;
}
