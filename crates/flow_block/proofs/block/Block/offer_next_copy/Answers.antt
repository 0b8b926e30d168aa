use Rattle.std.proofs.Common.{◌≡◌, ℕ, ◌<◌, Bool, true, cond, length, List, Option, Some, None, ap, ap₂, sym, ◌∙◌, subst}
use Rattle.std.proofs.lemmas.List.{get_or_read}
use Rattle.flow_spread.specs.declared.end.CopyEnd.{CopyEnd}
use Rattle.flow_spread.specs.ByLink.{named_at}
use Rattle.flow_spread.specs.End.{no_end, end_in}
use Rattle.flow_spread.specs.Spread.{SpreadState, may_offer, link_at, next_place}
use Rattle.flow_spread.proofs.NextOffer.{next_is}
use Rattle.flow_block.specs.Traits.{carries_copy, copies_over}
use Rattle.flow_block.proofs.block.Block.offer_next_copy.Goals as goal

pub offer_copy-requires-clause-may : goal.offer_copy-requires-clause-may
offer_copy-requires-clause-may c =
    let place = c.in-Some.place in
    subst (λ (s : SpreadState). may_offer place s ≡ true) (sym c.next_place.ensures.kept)
    (next_is c.self.inside.copies place (sym c.next_place.ensures.place ∙ c.in-Some.is)).may

pub returns-clause-named : goal.returns-clause-named
returns-clause-named c =
    let s = c.self.inside.copies in
    let place = c.in-Some.place in
    let ends = c.ends-2.result.now in
    let end = c.index-ends-place.result in
    let kept = c.next_place.ensures.kept in
    let is : next_place s ≡ Some place = sym c.next_place.ensures.place ∙ c.in-Some.is in
    let same : ends ≡ s.ends = c.ends-2.ensures ∙ ap (λ (n : SpreadState). n.ends) kept in
    let there : place < length ends = subst (λ (es : List CopyEnd). place < length es) (sym same) (next_is s place is).there in
    let read = sym c.index-ends-place.is ∙ get_or_read ends place end there c.index-ends-place.is no_end ∙ ap (λ (es : List CopyEnd). end_in es place) same in
    let carried : carries_copy place s.ends ≡ true =
    ap (λ (es : List CopyEnd). carries_copy place es) (sym (c.ends.ensures ∙ ap (λ (n : SpreadState). n.ends) kept)) ∙ sym c.if-not-carries_copy.ensures in
    let told = ap₂ (λ (link id : ℕ). Some (link, id)) (ap (λ (e : CopyEnd). e.link.rule.id) read)
    (c.in_ok-header.ensures.header ∙ ap (λ (n : SpreadState). n.id) kept) in
    let named : named_at s (copies_over s (next_place s)) ≡ Some ((link_at s place).rule.id, s.id) =
    ap (λ (p : Option ℕ). named_at s (copies_over s p)) is ∙ ap (λ (b : Bool). named_at s (cond b (Some place) None)) carried in
    rw (← c.self.view_is) (told ∙ sym named)
