use Rattle.std.proofs.Common.{ap, sym, subst, ◌∙◌}
use Rattle.flow_core.specs.State.{NetState}
use Rattle.flow_moves.specs.Passed.{MaySend, offered_by}
use Rattle.flow_moves.specs.Passes.{id_next}
use Rattle.flow_moves.proofs.PassesPrepared.{source_may, offered_then, offered_is}
use Rattle.flow_moves.proofs.PassesTell.{pass_tells}
use Rattle.flow_moves.proofs.parts.Parts.offer_alone.Goals as goal

pub offer_ready-requires-clause-may : goal.offer_ready-requires-clause-may
offer_ready-requires-clause-may c =
    let route = c.args.route.now in
    let net = c.args.self.now in
    let id = id_next net route.source route.source_place in
    subst (λ (now : NetState). MaySend now route.source route.source_place) (sym c.in_ok-prepare_source.ensures.done)
    (source_may net id route.source route.source_place c.requires.there.source c.requires.ready
    (pass_tells c.args.id route net c.requires.passes).carries)

pub returns-clause-offered : goal.returns-clause-offered
returns-clause-offered c = λ makes.
    let route = c.args.route.now in
    let net = c.args.self.now in
    let source = route.source in
    let k = route.source_place in
    c.offer_ready.ensures makes
    ∙ ap (λ (now : NetState). offered_then makes c.args.id (id_next now source k) route.target route.target_place now.lines
    (offered_by source k now)) c.in_ok-prepare_source.ensures.done
    ∙ offered_is makes c.args.id (id_next net source k) route net c.requires.there.source
