use Rattle.std.proofs.Common.{rules, sym, ap, subst, ◌∙◌}
use Rattle.flow_link.specs.declared.phase.Phase.{Phase}
use Rattle.flow_link.specs.Phase.{phase_after}
use Rattle.flow_link.specs.Planned.{layout_of}
use Rattle.flow_block.specs.declared.planned.Route.{Route}
use Rattle.flow_moves.specs.Ready.{IsThere, IsReady}
use Rattle.flow_exec.specs.Works.{works_of}
use Rattle.flow_moves.proofs.MerelyKept.{links_there, moves_ready}
use Rattle.flow_moves.proofs.PlansRun.{plan_runs}
use Rattle.flow_net.proofs.EventsDone.{moved_is_after}
use Rattle.flow_net.proofs.FindersTell.{route_there, route_at}
use Rattle.flow_net.proofs.BlocksTell.{line_there}
use Rattle.flow_net.proofs.engine.Engine.move_link.Goals as goal

pub index-requires : goal.index-requires
index-requires g c =
    let old = c.args.self.now in
    let there = route_there (layout_of old.plan) old.routes.items old.routed c.args.id c.requires.due.enabled.there in
    search rules

pub move_along-requires-clause-there : goal.move_along-requires-clause-there
move_along-requires-clause-there g c =
    let old = c.args.self.now in
    let layout = layout_of old.plan in
    let there = c.requires.due.enabled.there in
    subst (λ (r : Route). IsThere old.parts c.args.id r)
    (sym (c.index.ensures ∙ route_at layout old.routes.items old.routed c.args.id there _))
    (links_there layout (works_of g.W.Runs.meaning layout) old.parts c.requires.kept (plan_runs old.plan) c.args.id there)

pub move_along-requires-clause-ready : goal.move_along-requires-clause-ready
move_along-requires-clause-ready g c =
    let old = c.args.self.now in
    let layout = layout_of old.plan in
    let due = c.requires.due in
    subst (λ (r : Route). IsReady old.parts c.args.id r c.args.next.now)
    (sym (c.index.ensures ∙ route_at layout old.routes.items old.routed c.args.id due.enabled.there _))
    (moves_ready layout (works_of g.W.Runs.meaning layout) old.parts c.requires.kept (plan_runs old.plan) c.args.id
    c.args.next.now due.enabled due.id)

pub returns-clause-done : goal.returns-clause-done
returns-clause-done g c =
    let old = c.args.self.now in
    let layout = layout_of old.plan in
    let way = c.index.ensures ∙ route_at layout old.routes.items old.routed c.args.id c.requires.due.enabled.there _ in
    let leads =
    ap (λ (phase : Phase). phase_after phase c.args.next.now) (sym c.phase.ensures) ∙ sym c.step_of.ensures ∙ c.in-Some.is in
    moved_is_after layout (works_of g.W.Runs.meaning layout) old.parts c.move_along.new.self c.args.id c.args.next.now
    c.in-Some.phase c.index.result.now way leads c.in_ok-move_along.ensures.done

pub phase-requires : goal.phase-requires
phase-requires g c =
    line_there g.W.Runs.meaning c.args.self.now.plan c.args.self.now.parts c.requires.kept c.args.id c.requires.due.enabled.there
