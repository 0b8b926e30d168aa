use Rattle.flow_net.proofs.EventsTaken.{begin_done, begin_refused, end_done, end_refused}
use Rattle.flow_net.proofs.engine.Engine.step_job.Goals as goal

pub returns-in-Ok : goal.returns-in-Ok
returns-in-Ok g c =
    begin_done g.W.PartialEq.eq g.W.Runs.meaning c.args.self.now c.begin_job.new.self c.begin_job.ensures.same_plan c.args.event
    c.in-Begin.number c.in-Begin.is c.in-Ok.job c.in-Ok.ensures.may c.in-Ok.ensures.done c.in-Ok.ensures.next

pub returns-in-Err : goal.returns-in-Err
returns-in-Err g c =
    begin_refused g.W.PartialEq.eq g.W.Runs.meaning c.args.self.now c.begin_job.new.self c.begin_job.ensures.same_plan
    c.args.event
    c.in-Begin.number c.in-Begin.is c.in-Err.fault c.in-Err.ensures.kept c.in-Err.ensures.why

pub returns-in-Ok-end_job : goal.returns-in-Ok-end_job
returns-in-Ok-end_job g c =
    end_done g.W.PartialEq.eq g.W.Runs.meaning c.args.self.now c.end_job.new.self c.end_job.ensures.same_plan c.args.event
    c.in-End.number c.in-End.done c.in-End.is c.in-Ok-end_job.ensures.may c.in-Ok-end_job.ensures.done c.in-Ok-end_job.ensures.own

pub returns-in-Err-end_job : goal.returns-in-Err-end_job
returns-in-Err-end_job g c =
    let refused = c.in-Err-end_job in
    end_refused g.W.PartialEq.eq g.W.Runs.meaning c.args.self.now c.end_job.new.self c.end_job.ensures.same_plan c.args.event
    c.in-End.number c.in-End.done c.in-End.is refused.done refused.fault refused.ensures.back refused.ensures.kept
    refused.ensures.strange refused.ensures.refused_own refused.ensures.used_up refused.ensures.ids
