use Rattle.std.proofs.Common.{ap, ◌∙◌}
use Rattle.flow_link.specs.Planned.{layout_of}
use Rattle.flow_lane.specs.BlockLanes.{LanesState, jobs_of}
use Rattle.flow_lane.specs.Items.{state_in}
use Rattle.flow_task.specs.Tasks.{makes_of}
use Rattle.flow_task.proofs.JobsReturn.{idle_does, not_taken, takes_does}
use Rattle.flow_exec.specs.Works.{works_of}
use Rattle.flow_task.proofs.LanesStayOut.{freed_stays, jobs_stay_out, node_stays, works_where}
use Rattle.flow_task.proofs.OwnJobsStay.{jobs_stay, one_freed}
use Rattle.flow_task.proofs.task.BlockTask.end_from_lane.Goals as goal

pub returns-in-Ok-clause-does : goal.returns-in-Ok-clause-does
returns-in-Ok-clause-does g c =
    let s = c.args.self.now in
    takes_does (makes_of g.W.Runs.meaning s) _ c.take_back.result c.in-Ok.did s.node c.take_back.new.self.node c.in-Ok.is c.take_back.ensures.takes

pub returns-in-Err-clause-does : goal.returns-in-Err-clause-does
returns-in-Err-clause-does g c =
    let s = c.args.self.now in
    idle_does (makes_of g.W.Runs.meaning s) c.left_undone.result s.node c.take_back.new.self.node c.left_undone.ensures.not_done
    (not_taken (makes_of g.W.Runs.meaning s) _ c.take_back.result _ s.node c.take_back.new.self.node c.in-Err.is c.take_back.ensures.takes)

pub returns-in_default-clause-own : goal.returns-in_default-clause-own
returns-in_default-clause-own g c =
    let s = c.args.self.now in
    jobs_stay g.W.PartialEq.eq (layout_of s.of.value.rest.plan) s.number (makes_of g.W.Runs.meaning s) s.node s.node
    c.args.lanes.now c.next_result.new.self c.next_result.ensures.jobs

pub returns-in-Ok-clause-own : goal.returns-in-Ok-clause-own
returns-in-Ok-clause-own g c =
    let s = c.args.self.now in
    one_freed g.W.PartialEq.eq (layout_of s.of.value.rest.plan) s.number (makes_of g.W.Runs.meaning s) s.node c.take_back.new.self.node
    c.args.lanes.now c.clear.new.self c.take_back.result c.in-Ok.did c.next_result.new.self c.in-Some.place (state_in c.in-Some.done) c.in-Ok.is
    c.next_result.ensures.jobs c.in-Some.ensures.of_job c.clear.ensures.side c.in-Ok.ensures.own c.take_back.ensures.takes

pub returns-in-Err-clause-own : goal.returns-in-Err-clause-own
returns-in-Err-clause-own g c =
    let s = c.args.self.now in
    jobs_stay g.W.PartialEq.eq (layout_of s.of.value.rest.plan) s.number (makes_of g.W.Runs.meaning s) s.node c.take_back.new.self.node
    c.args.lanes.now c.keep.new.self (ap (λ (l : LanesState _). jobs_of l.sides) c.keep.ensures ∙ c.next_result.ensures.jobs)

pub returns-in_default-clause-out : goal.returns-in_default-clause-out
returns-in_default-clause-out g c =
    jobs_stay_out c.args.self.now.node c.args.lanes.now c.next_result.new.self c.next_result.ensures.jobs

pub returns-in-Ok-clause-out : goal.returns-in-Ok-clause-out
returns-in-Ok-clause-out g c =
    let s = c.args.self.now in
    let layout = layout_of s.of.value.rest.plan in
    freed_stays (makes_of g.W.Runs.meaning s) c.take_back.result c.in-Ok.did s.node c.take_back.new.self.node c.args.lanes.now
    c.next_result.new.self c.clear.new.self c.in-Some.place (state_in c.in-Some.done)
    (works_where layout (works_of g.W.Runs.meaning layout) s.number s.node s.law) c.in-Ok.is c.take_back.ensures.takes c.next_result.ensures.jobs
    c.in-Some.ensures.in_hand c.clear.ensures.side c.clear.ensures.gone

pub returns-in-Err-clause-out : goal.returns-in-Err-clause-out
returns-in-Err-clause-out g c = λ all.
    let s = c.args.self.now in
    let new = c.take_back.new.self.node in
    let same = not_taken (makes_of g.W.Runs.meaning s) _ c.take_back.result _ s.node new c.in-Err.is c.take_back.ensures.takes in
    node_stays s.node new c.keep.new.self same
    (jobs_stay_out s.node c.args.lanes.now c.keep.new.self
    (ap (λ (l : LanesState _). jobs_of l.sides) c.keep.ensures ∙ c.next_result.ensures.jobs) all)
