use Rattle.flow_link.specs.Planned.{layout_of}
use Rattle.flow_exec.specs.Works.{works_of}
use Rattle.flow_net.specs.Dues.{event_of}
use Rattle.flow_net.proofs.EventsCount.{one_event_at_most}
use Rattle.flow_net.proofs.EventsRefused.{enabled_refused}
use Rattle.flow_net.proofs.engine.Engine.event.Goals as goal

pub returns-then-is_due-clause-goes_on : goal.returns-then-is_due-clause-goes_on
returns-then-is_due-clause-goes_on g c =
    let old = c.args.self.now in
    let layout = layout_of old.plan in
    one_event_at_most layout (works_of g.W.Runs.meaning layout) c.go.result (event_of c.args.event.now) old.parts
    c.go.new.self.parts c.go.ensures.may c.go.ensures.done c.go.ensures.kept

pub returns-then-is_due-clause-why : goal.returns-then-is_due-clause-why
returns-then-is_due-clause-why g c =
    let old = c.args.self.now in
    let layout = layout_of old.plan in
    enabled_refused layout (works_of g.W.Runs.meaning layout) old.parts (event_of c.args.event.now) c.go.result
    (c.is_due.ensures.told.0 c.if-is_due.true) c.go.ensures.used_up (λ is. c.go.ensures.memory is c.requires.driven) c.go.ensures.never
