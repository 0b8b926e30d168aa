use Rattle.flow_link.specs.Planned.{layout_of}
use Rattle.flow_core.specs.Events.{NetEvent}
use Rattle.flow_exec.specs.Works.{works_of}
use Rattle.flow_net.proofs.EventsRefused.{memory_refused}
use Rattle.flow_net.proofs.engine.Engine.begin_with.Goals as goal

pub returns-in_err-job-clause-why : goal.returns-in_err-job-clause-why
returns-in_err-job-clause-why g c =
    let old = c.args.self.now in
    memory_refused (layout_of old.plan) (works_of g.W.Runs.meaning (layout_of old.plan)) old.parts (NetEvent.begin c.args.number)
    c.from_residual.result c.from_residual.ensures.1 (record { enabled = c.requires.enabled; ids = tt })
