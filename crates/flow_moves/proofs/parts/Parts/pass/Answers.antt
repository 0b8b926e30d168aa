use Rattle.std.proofs.Common.{rules, ◌≡◌, ℕ, Bool, Some, ap, sym, ◌∙◌}
use Rattle.flow_core.specs.State.{NetState}
use Rattle.flow_moves.specs.Passed.{source_prepared, target_prepared, target_forgot, sent_by, sent_ready, received_by}
use Rattle.flow_moves.specs.Passes.{id_next}
use Rattle.flow_moves.specs.Ways.{value_next}
use Rattle.flow_moves.proofs.PassesPrepared.{id_still, value_still, sent_after, target_undone, passes_is}
use Rattle.flow_moves.proofs.PassesTell.{pass_tells, passes_tell}
use Rattle.flow_moves.proofs.parts.Parts.pass.Goals as goal

pub returns-in-Ok-clause-passed : goal.returns-in-Ok-clause-passed
returns-in-Ok-clause-passed c = λ yes makes.
    let route = c.args.route.now in
    let net = c.args.self.now in
    let source = route.source in
    let k = route.source_place in
    let target = route.target in
    let there = c.requires.there in
    let done : c.prepare_target.new.self ≡ target_prepared target net = search rules in
    let tells = pass_tells c.args.id route net c.requires.passes in
    let id = id_next net source k in
    let parcel = c.in-Ok.parcel in
    let sent : c.send.new.self ≡ sent_ready source k id (target_prepared target (source_prepared source k net)) =
    c.in-Ok.ensures.sent
    ∙ ap (λ (now : NetState). sent_by source k (id_next now source k) now) done
    ∙ ap (λ (i : ℕ). sent_by source k i (target_prepared target net)) (id_still net source k target tells.apart)
    ∙ sent_after net source k id target tells.apart there.source in
    let head : value_next net source k ≡ Some parcel =
    sym (value_still net source k target tells.apart)
    ∙ sym (ap (λ (now : NetState). value_next now source k) done)
    ∙ c.in-Ok.ensures.value in
    c.receive.ensures id
    ∙ ap (received_by target route.target_place id parcel) sent
    ∙ passes_is net id id parcel source k target route.target_place there.source there.target tells.takes tells.apart
    ∙ sym (passes_tell makes c.args.id id parcel route net there head c.requires.passes)

-- The source has no memory

pub returns-in-Err-clause-kept : goal.returns-in-Err-clause-kept
returns-in-Err-clause-kept c =
    let route = c.args.route.now in
    let net = c.args.self.now in
    let target = route.target in
    let done : c.prepare_target.new.self ≡ target_prepared target net = search rules in
    c.forget_target.ensures
    ∙ ap (target_forgot c.is_target_ready-was_ready.result target) (c.in-Err.ensures.kept ∙ done)
    ∙ ap (λ (was : Bool). target_forgot was target (target_prepared target net)) c.is_target_ready-was_ready.ensures
    ∙ target_undone target route.target_place net c.requires.there.target
