use Rattle.std.proofs.Common.{ℕ, ◌∙◌, ◌==◌, refl, sym, eq-eqb, eqb-true, true, ap, ◌&&◌, Bool}
use Rattle.std.proofs.lemmas.Bool.{false_from_ne_true}
use Rattle.std.proofs.lemmas.List.{get_or_read}
use Rattle.flow_outlet.specs.ByLink.{place_of, has_room}
use Rattle.flow_outlet.specs.End.{no_end}
use Rattle.flow_block.proofs.SourceStands.{carries_is}
use Rattle.flow_block.proofs.by_link.carries.Goals as goal

pub returns-then-place_out-place : goal.returns-then-place_out-place
returns-then-place_out-place c =
    let ends = c.args.ends.now in
    let end = c.index-ends-place.result in
    carries_is ends c.args.place end (get_or_read ends c.args.place end c.requires c.index-ends-place.is no_end) true c.has_room.result
    (sym (eq-eqb (place_of end.rule.id ends) c.args.place (sym c.place_out.ensures ∙ c.if-place_out-place.true))) c.has_room.ensures

pub returns-else-place_out-place : goal.returns-else-place_out-place
returns-else-place_out-place c =
    let ends = c.args.ends.now in
    let end = c.index-ends-place.result in
    let room = has_room end.rule.max end.given in
    let none = false_from_ne_true (c.place_out.result == c.args.place) (λ e. c.if-place_out-place.false (eqb-true c.place_out.result c.args.place e)) in
    (none ∙ sym (ap (λ (at : Bool). at && room) none))
    ∙ carries_is ends c.args.place end (get_or_read ends c.args.place end c.requires c.index-ends-place.is no_end) (c.place_out.result == c.args.place) room
    (ap (λ (n : ℕ). n == c.args.place) c.place_out.ensures) refl
