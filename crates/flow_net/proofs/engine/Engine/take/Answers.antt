use Rattle.flow_net.specs.Dues.{event_of}
use Rattle.flow_net.proofs.EventsTaken.{step_done, step_refused}
use Rattle.flow_net.proofs.engine.Engine.take.Goals as goal

pub returns-in-Ok : goal.returns-in-Ok
returns-in-Ok g c =
    step_done g.W.PartialEq.eq g.W.Runs.meaning c.args.self.now c.event.new.self c.event.ensures.same_plan c.args.event
    (event_of c.in-Some.due) c.in-Some.ensures.same c.in-Some.ensures.driven c.in-Ok.ensures.may c.in-Ok.ensures.done

pub returns-in-Err : goal.returns-in-Err
returns-in-Err g c =
    step_refused g.W.PartialEq.eq g.W.Runs.meaning c.args.self.now c.event.new.self c.event.ensures.same_plan c.args.event
    (event_of c.in-Some.due) c.in-Some.ensures.same c.in-Some.ensures.driven c.in-Err.fault c.in-Err.ensures.kept
    c.in-Err.ensures.why

pub returns-in-None : goal.returns-in-None
returns-in-None g c = c.step_job.ensures
