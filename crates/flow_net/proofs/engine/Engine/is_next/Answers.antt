use Rattle.std.proofs.Common.{rules, sym, ◌∙◌}
use Rattle.flow_link.specs.Planned.{layout_of}
use Rattle.flow_exec.specs.Works.{works_of}
use Rattle.flow_net.proofs.IdsLeft.{id_for_target}
use Rattle.flow_net.proofs.FindersTell.{id_of_move, source_there, target_there, source_told}
use Rattle.flow_net.proofs.FindersTell.{target_told, lacking_told, found_same}
use Rattle.flow_net.proofs.engine.Engine.is_next.Goals as goal

pub next_of_target-requires : goal.next_of_target-requires
next_of_target-requires g c =
    target_there g.W.Runs.meaning c.args.self.now.plan c.args.self.now.parts c.requires.kept c.args.id
    c.requires.known c.route-route.result.now c.route-route.ensures

pub returns-then-not-is_of_source-clause-told : goal.returns-then-not-is_of_source-clause-told
returns-then-not-is_of_source-clause-told g c =
    target_told g.W.Runs.meaning c.args.self.now.plan c.args.self.now.parts c.requires.kept c.args.id
    c.requires.known c.route-route.result.now c.route-route.ensures
    c.next_of_target.result c.next_of_target.ensures c.args.next c.eq.result
    (sym c.is_of_source.ensures ∙ c.if-not-is_of_source.true)
    (search rules) (search rules)

pub lacks_id-requires : goal.lacks_id-requires
lacks_id-requires g c =
    source_there g.W.Runs.meaning c.args.self.now.plan c.args.self.now.parts c.requires.kept c.args.id
    c.requires.known c.route-route.result.now c.route-route.ensures

pub returns-then-lacks_id-clause-told : goal.returns-then-lacks_id-clause-told
returns-then-lacks_id-clause-told g c =
    lacking_told g.W.Runs.meaning c.args.self.now.plan c.args.self.now.parts c.requires.kept c.args.id
    c.requires.known c.route-route.result.now c.route-route.ensures
    c.lacks_id.result c.lacks_id.ensures c.if-lacks_id.true c.args.next (sym c.is_of_source.ensures ∙ c.if-not-is_of_source.false)
    c.has_header-has_header.ensures.id

pub next_of_source-requires : goal.next_of_source-requires
next_of_source-requires g c =
    source_there g.W.Runs.meaning c.args.self.now.plan c.args.self.now.parts c.requires.kept c.args.id
    c.requires.known c.route-route.result.now c.route-route.ensures

pub returns-clause-told : goal.returns-clause-told
returns-clause-told g c =
    source_told g.W.Runs.meaning c.args.self.now.plan c.args.self.now.parts c.requires.kept c.args.id
    c.requires.known c.route-route.result.now c.route-route.ensures
    c.lacks_id.result c.lacks_id.ensures c.if-lacks_id.false c.next_of_source.result c.next_of_source.ensures.next
    c.args.next c.eq-2.result (sym c.is_of_source.ensures ∙ c.if-not-is_of_source.false) (search rules)
    (found_same _ c.next_of_source.result c.args.next c.eq-2.result c.eq-2.ensures (search rules))

pub returns-then-not-is_of_source-clause-id : goal.returns-then-not-is_of_source-clause-id
returns-then-not-is_of_source-clause-id g c = λ told.
    let now = c.args.self.now in
    id_for_target (layout_of now.plan) (works_of g.W.Runs.meaning (layout_of now.plan)) now.parts c.args.id c.args.next
    (sym c.is_of_source.ensures ∙ c.if-not-is_of_source.true)

pub returns-then-lacks_id-clause-id : goal.returns-then-lacks_id-clause-id
returns-then-lacks_id-clause-id g c = λ wrong. absurd (cc)

pub returns-clause-id : goal.returns-clause-id
returns-clause-id g c = λ told.
    let now = c.args.self.now in
    id_of_move (layout_of now.plan) (works_of g.W.Runs.meaning (layout_of now.plan)) now.parts c.args.id c.args.next
    c.has_header-has_header.ensures.id
