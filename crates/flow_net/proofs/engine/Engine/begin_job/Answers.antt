use Rattle.std.proofs.Common.{option_map}
use Rattle.std.specs.Arc.{arc_value}
use Rattle.flow_link.specs.Planned.{layout_of}
use Rattle.flow_net.proofs.JobsBegin.{begun_next}
use Rattle.flow_core.specs.Events.{NetEvent}
use Rattle.flow_exec.specs.Works.{works_of}
use Rattle.flow_net.proofs.EventsRefused.{memory_refused}
use Rattle.flow_net.proofs.engine.Engine.begin_job.Goals as goal

pub returns-clause-next : goal.returns-clause-next
returns-clause-next g c =
    let old = c.args.self.now in
    begun_next g.W.PartialEq.eq (layout_of old.plan) old.parts c.args.number (c.is_due.ensures.told.0 c.if-not-is_due.false).there
    (option_map (λ work. arc_value work) c.in_ok-work.work) c.in_ok-work.ensures.same c.begin_with.result c.begin_with.ensures.ticket
    c.begin_with.ensures.message c.begin_with.ensures.kind c.begin_with.ensures.work

pub returns-in_err-work-clause-why : goal.returns-in_err-work-clause-why
returns-in_err-work-clause-why g c =
    let old = c.args.self.now in
    memory_refused (layout_of old.plan) (works_of g.W.Runs.meaning (layout_of old.plan)) old.parts (NetEvent.begin c.args.number)
    c.from_residual.result c.from_residual.ensures.1
    (record { enabled = c.is_due.ensures.told.0 c.if-not-is_due.false; ids = tt })
