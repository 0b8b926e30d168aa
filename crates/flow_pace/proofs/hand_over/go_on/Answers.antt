use Rattle.flow_core.specs.Events.{NetEvent}
use Rattle.flow_crew.proofs.RunsOn.{runs_by}
use Rattle.flow_pace.proofs.hand_over.go_on.Goals as goal

pub returns : goal.returns
returns g c =
    record {
      runs_on = runs_by g.W.Runs.meaning (NetEvent.at_link c.args.id c.args.next) c.event.result c.args.net.now c.event.new.self
          c.event.ensures.same_plan c.event.ensures.inputs_stay c.event.ensures.moved c.event.ensures.kept;
    }
