use Rattle.std.proofs.Common.{rules, sym, ap, subst, ◌∙◌}
use Rattle.flow_link.specs.Planned.{layout_of}
use Rattle.flow_block.specs.declared.planned.Route.{Route}
use Rattle.flow_block.specs.Planned.{block_makes}
use Rattle.flow_exec.specs.Works.{works_of}
use Rattle.flow_moves.specs.Ready.{IsThere}
use Rattle.flow_moves.specs.Ways.{looked_along}
use Rattle.flow_moves.proofs.LooksGoAlong.{looks_go_along}
use Rattle.flow_net.proofs.FindersTell.{route_there, route_at}
use Rattle.flow_net.proofs.LooksAll.{ends_there}
use Rattle.flow_net.proofs.engine.Engine.look_at.Goals as goal

pub index-requires : goal.index-requires
index-requires g c =
    let old = c.args.self.now in
    let there = route_there (layout_of old.plan) old.routes.items old.routed c.args.id c.requires.there in
    search rules

pub look_along-requires : goal.look_along-requires
look_along-requires g c =
    let old = c.args.self.now in
    let way = c.index.ensures ∙ route_at (layout_of old.plan) old.routes.items old.routed c.args.id c.requires.there _ in
    subst (λ (r : Route). IsThere old.parts c.args.id r) (sym way)
    (ends_there g.W.Runs.meaning old.plan old.parts c.requires.in_order c.args.id c.requires.there)

pub returns-clause-looked : goal.returns-clause-looked
returns-clause-looked g c =
    let old = c.args.self.now in
    let layout = layout_of old.plan in
    let meaning = works_of g.W.Runs.meaning layout in
    let way = c.index.ensures ∙ route_at layout old.routes.items old.routed c.args.id c.requires.there _ in
    c.look_along.ensures (block_makes layout meaning)
    ∙ ap (λ (r : Route). looked_along (block_makes layout meaning) c.args.id r old.parts) way
    ∙ sym (looks_go_along layout meaning c.args.id old.parts)
