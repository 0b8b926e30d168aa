use Rattle.std.proofs.Common.{length, ap, subst, sym, ◌∙◌}
use Rattle.flow_link.specs.Planned.{layout_of}
use Rattle.flow_core.specs.InOrder.{journals_of}
use Rattle.flow_core.specs.Inputs.{InputsStay}
use Rattle.flow_core.specs.State.{NetState, callers_in}
use Rattle.flow_core.proofs.AllLook.{looks_leave_posted, looks_write_no_mark}
use Rattle.flow_exec.specs.Works.{works_of}
use Rattle.flow_moves.proofs.MerelyKept.{lawful_merely}
use Rattle.flow_moves.proofs.PlansRun.{plan_runs}
use Rattle.flow_net.specs.Asked.{none_asked}
use Rattle.flow_net.proofs.NoneAsked.{callers_looked, unasked_then}
use Rattle.flow_net.proofs.net.Net.join.Goals as goal

pub invariant_of-result-clause-unasked : goal.invariant_of-result-clause-unasked
invariant_of-result-clause-unasked g c =
    let parts = c.new-parts.result in
    let layout = layout_of c.args.apart.plan in
    let works = works_of g.W.Runs.meaning layout in
    unasked_then parts c.look_all.new.self.parts
    (ap callers_in c.look_all.ensures.looked ∙ callers_looked layout works (length layout.links) parts)
    (ap none_asked c.new-parts.ensures ∙ c.requires.unasked)

pub returns-clause-journals : goal.returns-clause-journals
returns-clause-journals g c =
    let apart = c.args.apart in
    let layout = layout_of apart.plan in
    ap journals_of (c.look_all.ensures.looked)
    ∙ looks_write_no_mark _ layout (works_of g.W.Runs.meaning layout) (length layout.links) c.new-parts.result
    ∙ ap journals_of c.new-parts.ensures

pub returns-clause-lawful : goal.returns-clause-lawful
returns-clause-lawful g c =
    let engine = c.look_all.new.self in
    let layout = layout_of engine.plan in
    lawful_merely layout (works_of g.W.Runs.meaning layout) engine.parts c.look_all.ensures.kept (plan_runs engine.plan)

pub returns-clause-inputs_stay : goal.returns-clause-inputs_stay
returns-clause-inputs_stay g c =
    let layout = layout_of c.args.apart.plan in
    subst (λ (net : NetState). InputsStay net c.look_all.new.self.parts) c.new-parts.ensures
    (subst (λ (net : NetState). InputsStay c.new-parts.result net) (sym c.look_all.ensures.looked)
    (looks_leave_posted _ layout (works_of g.W.Runs.meaning layout) (length layout.links) c.new-parts.result))
