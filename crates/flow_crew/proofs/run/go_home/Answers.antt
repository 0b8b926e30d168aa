use Rattle.flow_core.specs.Events.{NetEvent}
use Rattle.flow_crew.proofs.RunsOn.{runs_by}
use Rattle.flow_crew.proofs.run.go_home.Goals as goal

pub returns-in-Ok : goal.returns-in-Ok
returns-in-Ok g c =
    record {
      runs_on = runs_by g.W.Runs.meaning (NetEvent.at_link c.args.id c.args.next) c.event.result c.args.net.now c.event.new.self
          c.event.ensures.same_plan c.event.ensures.inputs_stay c.event.ensures.moved c.event.ensures.kept;
    }

pub returns-in-Err-default-Memory : goal.returns-in-Err-default-Memory
returns-in-Err-default-Memory g c =
    record {
      runs_on = runs_by g.W.Runs.meaning (NetEvent.at_link c.args.id c.args.next) c.event.result c.args.net.now c.event.new.self
          c.event.ensures.same_plan c.event.ensures.inputs_stay c.event.ensures.moved c.event.ensures.kept;
    }

pub returns : goal.returns
returns g c =
    record {
      runs_on = runs_by g.W.Runs.meaning (NetEvent.at_link c.args.id c.args.next) c.event.result c.args.net.now c.event.new.self
          c.event.ensures.same_plan c.event.ensures.inputs_stay c.event.ensures.moved c.event.ensures.kept;
    }
