-- The next offer goes over the first link that may be asked, and nowhere only where none may.
use Rattle.std.proofs.Common.{◌≡◌, ℕ, ◌<◌, ◌≤◌, ◌&&◌, ltb, cond, Bool, true, false, length, Some, None, is_some, refl, ap, subst, inl, inr, arith}
use Rattle.std.proofs.lemmas.Bool.{cases_lt, ltb-true, lt-ltb, and_parts, false_from_ne_true}
use Rattle.std.proofs.lemmas.List.{get_or-set_same}
use Rattle.flow_link.proofs.ListTests.{never_both}
use Rattle.flow_spread.specs.End.{end_in, no_end, is_open, first_open}
use Rattle.flow_spread.specs.Spread.{SpreadState, end_at, may_offer, next_place, prepares}
use Rattle.flow_spread.proofs.SpreadFits.{none_before, open_there}
use Rattle.flow_spread.specs.Moves.{IsNextOffer, OffersInOrder}

record Chosen (a b : Bool) (n k : ℕ) : Type 0 where
  pub some : a ≡ true
  pub there : b ≡ true
  pub same : n ≡ k

chosen : (a b : Bool) (n k : ℕ) → cond (a && b) (Some n) None ≡ Some k → Chosen a b n k
chosen true true n k e = record { some = refl; there = refl; same = cc }
chosen true false n k e = cc
chosen false b n k e = cc

pub record Next (s : SpreadState) (k : ℕ) : Type 0 where
  pub there : k < length s.ends
  pub may : may_offer k s ≡ true
  pub first : first_open s.id s.ends ≡ k

pub next_is : (s : SpreadState) (k : ℕ) → next_place s ≡ Some k → Next s k
next_is s k e =
    let place = first_open s.id s.ends in
    let all = chosen (is_some s.element) (ltb place (length s.ends)) place k e in
    let there : place < length s.ends = ltb-true place (length s.ends) all.there in
    let is : is_open s.id (end_in s.ends place) ≡ true = open_there s.id s.ends there in
    record {
      there = subst (λ (n : ℕ). n < length s.ends) all.same there;
      may = subst (λ (n : ℕ). may_offer n s ≡ true) all.same (rw (all.some, is) refl);
      first = all.same;
    }

-- what is made for the link leaves it open
pub prepared_may : (s : SpreadState) (k : ℕ) → k < length s.ends → may_offer k s ≡ true → may_offer k (prepares k s) ≡ true
prepared_may s k here may =
    rw (get_or-set_same s.ends k (record (end_at s k) { share = s.element }) no_end here) may

no_element : (some is_open : Bool) → is_open ≡ false → some && is_open ≡ false
no_element true is_open e = e
no_element false is_open e = refl

named_is : (s : SpreadState) (k : ℕ) → next_place s ≡ Some k → IsNextOffer s k
named_is s k e =
    let next = next_is s k e in
    record {
      there = next.there;
      may = next.may;
      earlier = λ j l. no_element (is_some s.element) (is_open s.id (end_at s j))
          (none_before s.id s.ends j (let before : j < first_open s.id s.ends = rw next.first l in before));
    }

is_named : (s : SpreadState) (k : ℕ) → IsNextOffer s k → next_place s ≡ Some k
is_named s k next =
    let place = first_open s.id s.ends in
    let parts = and_parts (is_some s.element) (is_open s.id (end_at s k)) next.may in
    let no_later : place ≤ k = elim (cases_lt k place) [
      | inl l ↦ never_both (is_open s.id (end_at s k)) parts.1 (none_before s.id s.ends k l)
      | inr l ↦ l
    ] in
    let there : place < length s.ends = omega (arith, next.there) in
    let same : place ≡ k = elim (cases_lt place k) [
      | inl l ↦
          let is : may_offer place s ≡ true = rw (parts.0, open_there s.id s.ends there) refl in
          never_both (may_offer place s) is (next.earlier place l)
      | inr l ↦ omega arith
    ] in
    let both : is_some s.element && ltb place (length s.ends) ≡ true = rw (parts.0, lt-ltb place (length s.ends) there) refl in
    rw both (ap Some same)

nowhere : (some there : Bool) (n : ℕ) → cond (some && there) (Some n) None ≡ None → some ≡ true → there ≡ false
nowhere true true n e s = cc
nowhere true false n e s = refl
nowhere false there n e s = cc

none_is : (s : SpreadState) → next_place s ≡ None → (k : ℕ) → k < length s.ends → may_offer k s ≡ false
none_is s e k here = false_from_ne_true (may_offer k s) (λ may.
    let place = first_open s.id s.ends in
    let parts = and_parts (is_some s.element) (is_open s.id (end_at s k)) may in
    let out : ltb place (length s.ends) ≡ false = nowhere (is_some s.element) (ltb place (length s.ends)) place e parts.0 in
    let before : k < place = elim (cases_lt place (length s.ends)) [
      | inl l ↦ never_both (ltb place (length s.ends)) (lt-ltb place (length s.ends) l) out
      | inr l ↦ omega (arith, here, l)
    ] in
    never_both (is_open s.id (end_at s k)) parts.1 (none_before s.id s.ends k before))

pub offers_in_order : OffersInOrder
offers_in_order = record {
  named = λ s k. (named_is s k, is_named s k);
  none = none_is;
}
