use Rattle.std.proofs.Common.{rules, sym, subst, ◌∙◌}
use Rattle.flow_link.specs.Planned.{layout_of}
use Rattle.flow_block.specs.declared.planned.Route.{Route}
use Rattle.flow_moves.specs.Ready.{IsThere}
use Rattle.flow_exec.specs.Works.{works_of}
use Rattle.flow_moves.proofs.MerelyKept.{links_there}
use Rattle.flow_moves.proofs.PlansRun.{plan_runs}
use Rattle.flow_net.proofs.EntriesGoOn.{id_at, all_at, posted_so, source_at}
use Rattle.flow_net.proofs.FindersTell.{route_there, route_at}
use Rattle.flow_net.proofs.engine.Engine.post.Goals as goal

pub index-requires : goal.index-requires
index-requires g c =
    let old = c.args.self.now in
    let there = route_there (layout_of old.plan) old.routes.items old.routed c.args.id c.requires.there in
    search rules

pub post_over-requires-clause-line : goal.post_over-requires-clause-line
post_over-requires-clause-line g c =
    let old = c.args.self.now in
    (links_there (layout_of old.plan) (works_of g.W.Runs.meaning (layout_of old.plan)) old.parts c.requires.kept (plan_runs old.plan)
    c.args.id c.requires.there).line

pub post_over-requires-clause-source : goal.post_over-requires-clause-source
post_over-requires-clause-source g c =
    let old = c.args.self.now in
    let layout = layout_of old.plan in
    let way = c.index.ensures ∙ route_at layout old.routes.items old.routed c.args.id c.requires.there _ in
    let there = links_there layout (works_of g.W.Runs.meaning layout) old.parts c.requires.kept (plan_runs old.plan) c.args.id c.requires.there in
    source_at layout c.args.id c.args.block old.parts c.index.result.now way c.requires.own there

pub post_over-requires-clause-target : goal.post_over-requires-clause-target
post_over-requires-clause-target g c =
    let old = c.args.self.now in
    let layout = layout_of old.plan in
    let way = c.index.ensures ∙ route_at layout old.routes.items old.routed c.args.id c.requires.there _ in
    let there = links_there layout (works_of g.W.Runs.meaning layout) old.parts c.requires.kept (plan_runs old.plan) c.args.id c.requires.there in
    (subst (λ (r : Route). IsThere old.parts c.args.id r) (sym way) there).target

pub post_over-requires-clause-all : goal.post_over-requires-clause-all
post_over-requires-clause-all g c =
    let old = c.args.self.now in
    let layout = layout_of old.plan in
    let way = c.index.ensures ∙ route_at layout old.routes.items old.routed c.args.id c.requires.there _ in
    all_at layout c.args.id c.args.block old.parts c.index.result.now way c.requires.own c.requires.may.idle

pub post_over-requires-clause-id : goal.post_over-requires-clause-id
post_over-requires-clause-id g c =
    let old = c.args.self.now in
    let layout = layout_of old.plan in
    let way = c.index.ensures ∙ route_at layout old.routes.items old.routed c.args.id c.requires.there _ in
    id_at layout c.args.id c.args.block old.parts c.index.result.now way c.requires.own c.requires.may.idle c.requires.id

pub returns-clause-posted : goal.returns-clause-posted
returns-clause-posted g c =
    let old = c.args.self.now in
    let layout = layout_of old.plan in
    let way = c.index.ensures ∙ route_at layout old.routes.items old.routed c.args.id c.requires.there _ in
    posted_so layout (works_of g.W.Runs.meaning layout) c.args.id c.args.block old.parts c.post_over.new.self c.index.result.now way
    c.requires.own c.args.value c.post_over.result c.post_over.ensures.posted
