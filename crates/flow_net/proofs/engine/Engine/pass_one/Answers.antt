use Rattle.std.proofs.Common.{rules, sym, ap, subst, ◌∙◌}
use Rattle.flow_link.specs.declared.phase.Move.TheVariants.{Offer}
use Rattle.flow_link.specs.Planned.{layout_of}
use Rattle.flow_block.specs.declared.planned.Route.{Route}
use Rattle.flow_block.specs.Planned.{block_makes}
use Rattle.flow_moves.specs.Passes.{id_next, may_pass, offered_along, passed_along}
use Rattle.flow_moves.specs.Ready.{IsThere, SourceIsReady}
use Rattle.flow_exec.specs.Works.{works_of}
use Rattle.flow_moves.proofs.MerelyKept.{links_there, moves_ready}
use Rattle.flow_moves.proofs.PlansRun.{plan_runs}
use Rattle.flow_net.proofs.FindersTell.{route_there, route_at}
use Rattle.flow_net.proofs.PassesCount.{next_id_of, offered_counts, passed_counts}
use Rattle.flow_net.proofs.engine.Engine.pass_one.Goals as goal

pub index-route-requires : goal.index-route-requires
index-route-requires g c =
    let old = c.args.self.now in
    let there = route_there (layout_of old.plan) old.routes.items old.routed c.args.id c.requires.due.enabled.there in
    search rules

pub pass-requires-clause-there : goal.pass-requires-clause-there
pass-requires-clause-there g c =
    let old = c.args.self.now in
    let layout = layout_of old.plan in
    let there = c.requires.due.enabled.there in
    subst (λ (r : Route). IsThere old.parts c.args.id r)
    (sym (c.index-route.ensures ∙ route_at layout old.routes.items old.routed c.args.id there _))
    (links_there layout (works_of g.W.Runs.meaning layout) old.parts c.requires.kept (plan_runs old.plan) c.args.id there)

pub pass-requires-clause-ready : goal.pass-requires-clause-ready
pass-requires-clause-ready g c =
    let old = c.args.self.now in
    let layout = layout_of old.plan in
    let due = c.requires.due in
    subst (λ (r : Route). SourceIsReady (Offer (id_next old.parts r.source r.source_place)) old.parts r.source r.source_place)
    (sym (c.index-route.ensures ∙ route_at layout old.routes.items old.routed c.args.id due.enabled.there _))
    (moves_ready layout (works_of g.W.Runs.meaning layout) old.parts c.requires.kept (plan_runs old.plan) c.args.id
    (Offer (next_id_of layout old.parts c.args.id)) due.enabled due.id)

pub pass-requires-clause-passes : goal.pass-requires-clause-passes
pass-requires-clause-passes g c =
    let old = c.args.self.now in
    let layout = layout_of old.plan in
    let way = c.index-route.ensures ∙ route_at layout old.routes.items old.routed c.args.id c.requires.due.enabled.there _ in
    ap (λ (r : Route). may_pass c.args.id r old.parts) way ∙ c.requires.passes

pub returns-then-branch-clause-happened : goal.returns-then-branch-clause-happened
returns-then-branch-clause-happened g c =
    let old = c.args.self.now in
    let layout = layout_of old.plan in
    let works = works_of g.W.Runs.meaning layout in
    let makes = block_makes layout works in
    let found = c.index-route.result.now in
    let way = c.index-route.ensures ∙ route_at layout old.routes.items old.routed c.args.id c.requires.due.enabled.there _ in
    passed_counts layout works (plan_runs old.plan) c.args.id (next_id_of layout old.parts c.args.id) old.parts c.requires.kept
    c.requires.due c.requires.passes c.pass.new.self
    (◌∙◌ {b = passed_along makes c.args.id (id_next old.parts found.source found.source_place) found old.parts}
    (c.in_ok-pass.ensures.passed c.if-branch.true makes)
    (ap (λ (r : Route). passed_along makes c.args.id (id_next old.parts r.source r.source_place) r old.parts) way))

pub returns-else-branch-clause-happened : goal.returns-else-branch-clause-happened
returns-else-branch-clause-happened g c =
    let old = c.args.self.now in
    let layout = layout_of old.plan in
    let works = works_of g.W.Runs.meaning layout in
    let makes = block_makes layout works in
    let found = c.index-route.result.now in
    let way = c.index-route.ensures ∙ route_at layout old.routes.items old.routed c.args.id c.requires.due.enabled.there _ in
    offered_counts layout works (plan_runs old.plan) c.args.id (next_id_of layout old.parts c.args.id) old.parts c.requires.kept
    c.requires.due c.requires.passes c.pass.new.self
    (◌∙◌ {b = offered_along makes c.args.id (id_next old.parts found.source found.source_place) found old.parts}
    (c.in_ok-pass.ensures.offered c.if-branch.false makes)
    (ap (λ (r : Route). offered_along makes c.args.id (id_next old.parts r.source r.source_place) r old.parts) way))
