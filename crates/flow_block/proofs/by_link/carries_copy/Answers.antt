use Rattle.std.proofs.Common.{◌≡◌, ◌==◌, ◌&&◌, Bool, true, ℕ, refl, ap, sym, ◌∙◌, eq-eqb, eqb-true}
use Rattle.std.proofs.lemmas.Bool.{false_from_ne_true}
use Rattle.std.proofs.lemmas.List.{get_or_read}
use Rattle.flow_outlet.specs.ByLink.{has_room}
use Rattle.flow_spread.specs.declared.end.CopyEnd.{CopyEnd}
use Rattle.flow_spread.specs.ByLink.{place_of}
use Rattle.flow_spread.specs.End.{no_end}
use Rattle.flow_block.proofs.CopyStands.{carries_copy_is}
use Rattle.flow_block.proofs.by_link.carries_copy.Goals as goal

pub returns-then-place_of_copy-place : goal.returns-then-place_of_copy-place
returns-then-place_of_copy-place c =
    let ends = c.args.ends.now in
    let place = c.args.place in
    let end = c.index-ends-place.result in
    let is = c.index-ends-place.is in
    let named : place_of end.link.rule.id ends ≡ place =
    ap (λ (e : CopyEnd). place_of e.link.rule.id ends) is ∙ sym c.place_of_copy.ensures ∙ c.if-place_of_copy-place.true in
    carries_copy_is ends place end (get_or_read ends place end c.requires is no_end) true c.has_room.result
    (sym (eq-eqb (place_of end.link.rule.id ends) place named))
    (c.has_room.ensures ∙ sym (ap (λ (e : CopyEnd). has_room e.link.rule.max e.link.given) is))

pub returns-else-place_of_copy-place : goal.returns-else-place_of_copy-place
returns-else-place_of_copy-place c =
    let ends = c.args.ends.now in
    let place = c.args.place in
    let end = c.index-ends-place.result in
    let is = c.index-ends-place.is in
    let room = has_room end.link.rule.max end.link.given in
    let none = false_from_ne_true (c.place_of_copy.result == place) (λ e. c.if-place_of_copy-place.false (eqb-true c.place_of_copy.result place e)) in
    (none ∙ sym (ap (λ (at : Bool). at && room) none))
    ∙ carries_copy_is ends place end (get_or_read ends place end c.requires is no_end) (c.place_of_copy.result == place) room
    (ap (λ (n : ℕ). n == place) (c.place_of_copy.ensures ∙ sym (ap (λ (e : CopyEnd). place_of e.link.rule.id ends) is))) refl
