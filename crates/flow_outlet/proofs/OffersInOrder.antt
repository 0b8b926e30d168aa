-- The head is offered next where link order says, and nowhere only where nobody is left to offer it to.
use Rattle.std.proofs.Common.{◌≡◌, ℕ, ◌+◌, ◌<◌, ◌≤◌, ◌||◌, not, zero, suc, ltb, cond, Bool, true, false, List, [], ◌∷◌, length, Option, Some, None, is_some, refl, ◌∙◌, ap, subst, inl, inr, arith}
use Rattle.std.proofs.lemmas.Bool.{cases_lt, ltb-true, lt-ltb, or_parts}
use Rattle.flow_value.specs.declared.value.Value.{Value}
use Rattle.flow_link.proofs.ListTests.{never_both}
use Rattle.flow_outlet.specs.declared.ends.OutEnd.{OutEnd}
use Rattle.flow_outlet.specs.End.{is_passed, place_in, end_in, is_free}
use Rattle.flow_outlet.specs.Outlet.{OutletState, head_of, is_empty, stage_at, is_held_back, is_renewing, may_offer}
use Rattle.flow_outlet.specs.Order.{StopsAt, IsNextOffer, IsHeldBack, OffersInOrder}

earlier_in : (next : ℕ) (head : Option Value) (e : OutEnd) (es : List OutEnd) (b : Bool) → is_passed next head e ≡ b
    → ((j : ℕ) → j < place_in next head es → is_passed next head (end_in es j) ≡ true)
    → (j : ℕ) → j < cond b (place_in next head es + 1) 0 → is_passed next head (end_in (e ∷ es) j) ≡ true
earlier_in next head e es true eq rest zero l = eq
earlier_in next head e es true eq rest (suc j) l = rest j (omega arith)
earlier_in next head e es false eq rest j l = absurd (omega arith)

-- the message goes past each end before that place
pub earlier_passed : (next : ℕ) (head : Option Value) (ends : List OutEnd) (j : ℕ) → j < place_in next head ends
    → is_passed next head (end_in ends j) ≡ true
earlier_passed next head [] j l = absurd (omega arith)
earlier_passed next head (e ∷ es) j l =
    earlier_in next head e es (is_passed next head e) refl (earlier_passed next head es) j l

stops_in : (next : ℕ) (head : Option Value) (e : OutEnd) (es : List OutEnd) (b : Bool) → is_passed next head e ≡ b
    → (place_in next head es < length es → is_passed next head (end_in es (place_in next head es)) ≡ false)
    → cond b (place_in next head es + 1) 0 < length (e ∷ es)
    → is_passed next head (end_in (e ∷ es) (cond b (place_in next head es + 1) 0)) ≡ false
stops_in next head e es true eq rest l =
    let here : place_in next head es + 1 ≡ suc (place_in next head es) = omega arith in
    rw here (rest (omega arith))
stops_in next head e es false eq rest l = eq

-- and stops at that place, if there is one
pub stops_there : (next : ℕ) (head : Option Value) (ends : List OutEnd) → place_in next head ends < length ends
    → is_passed next head (end_in ends (place_in next head ends)) ≡ false
stops_there next head [] l = absurd (omega arith)
stops_there next head (e ∷ es) l = stops_in next head e es (is_passed next head e) refl (stops_there next head es) l

-- it is the first place where it stops
pub first_stop : (next : ℕ) (head : Option Value) (ends : List OutEnd) (k : ℕ) → is_passed next head (end_in ends k) ≡ false
    → place_in next head ends ≤ k
first_stop next head ends k stops = elim (cases_lt k (place_in next head ends)) [
  | inl l ↦ never_both _ (earlier_passed next head ends k l) stops
  | inr l ↦ l
]

record Chosen (a b c d : Bool) (n k : ℕ) : Type 0 where
  is_some : a ≡ false
  is_none : b ≡ false
  there : c ≡ true
  free : d ≡ true
  same : n ≡ k

chosen : (a b c d : Bool) (n k : ℕ) → cond (a || b || not c || not d) None (Some n) ≡ Some k → Chosen a b c d n k
chosen false false true true n k e = record { is_some = refl; is_none = refl; there = refl; free = refl; same = cc }
chosen true true _ _ n k e = cc
chosen true false _ _ n k e = cc
chosen false true _ _ n k e = cc
chosen false false false _ n k e = cc
chosen false false true false n k e = cc

choose : (a b c d : Bool) (n : ℕ) → a ≡ false → b ≡ false → c ≡ true → d ≡ true
    → cond (a || b || not c || not d) None (Some n) ≡ Some n
choose a b c d n p q r s = rw (p, q, r, s) refl

busy_then : (a b c d : Bool) (n : ℕ) → cond (a || b || not c || not d) None (Some n) ≡ None → a ≡ false → b ≡ false → c ≡ true
    → d ≡ false
busy_then a b c true n e p q r = let chosen : cond (a || b || not c || not true) None (Some n) ≡ Some n = rw (p, q, r) refl in cc
busy_then a b c false n e p q r = refl

none_back : (a b : Bool) → a ≡ false → b ≡ false → (a || b) ≡ false
none_back a b e f = rw (e, f) refl

is_none_is : (offer : Option ℕ) → is_some offer ≡ false → offer ≡ None
is_none_is None e = refl
is_none_is (Some k) e = cc

pub named_is : (o : OutletState) (k : ℕ) → may_offer o ≡ Some k → IsNextOffer o k
named_is o k e =
    let place = place_in o.next (head_of o) o.ends in
    let all = chosen (is_empty o.left) (is_held_back o) (ltb place (length o.ends)) (is_free (stage_at o place)) place k e in
    let there : place < length o.ends = ltb-true place (length o.ends) all.there in
    let at = λ (n : ℕ). n < length o.ends in
    record {
      there = subst at all.same there;
      some_left = all.is_some;
      none_out = is_none_is o.offer (or_parts (is_some o.offer) (is_renewing o) all.is_none).0;
      none_back = (or_parts (is_some o.offer) (is_renewing o) all.is_none).1;
      stops = subst (λ (n : ℕ). StopsAt o n) all.same (stops_there o.next (head_of o) o.ends there);
      free = subst (λ (n : ℕ). is_free (stage_at o n) ≡ true) all.same all.free;
      earlier = λ j l. earlier_passed o.next (head_of o) o.ends j (let here : j < place = rw all.same l in here);
    }

is_named : (o : OutletState) (k : ℕ) → IsNextOffer o k → may_offer o ≡ Some k
is_named o k next =
    let place = place_in o.next (head_of o) o.ends in
    let no_later : place ≤ k = first_stop o.next (head_of o) o.ends k next.stops in
    let same : place ≡ k = elim (cases_lt place k) [
      | inl l ↦ never_both _ (next.earlier place l)
          (stops_there o.next (head_of o) o.ends (let near : place < length o.ends = omega (arith, next.there) in near))
      | inr l ↦ omega arith
    ] in
    let there : ltb place (length o.ends) ≡ true = lt-ltb place (length o.ends) (let near : place < length o.ends = rw same next.there in near) in
    let free : is_free (stage_at o place) ≡ true = rw same next.free in
    choose _ _ _ _ place next.some_left (none_back (is_some o.offer) (is_renewing o) (ap is_some next.none_out) next.none_back) there free ∙ ap Some same

none_is : (o : OutletState) → may_offer o ≡ None → is_empty o.left ≡ false → o.offer ≡ None → is_renewing o ≡ false
    → (k : ℕ) → k < length o.ends → StopsAt o k → IsHeldBack o k
none_is o e left out back k l stops =
    let place = place_in o.next (head_of o) o.ends in
    let before : place ≤ k = first_stop o.next (head_of o) o.ends k stops in
    let near : place < length o.ends = omega arith in
    record {
      place = place;
      before = before;
      stops = stops_there o.next (head_of o) o.ends near;
      busy = busy_then _ _ _ (is_free (stage_at o place)) place e left (none_back (is_some o.offer) (is_renewing o) (ap is_some out) back) (lt-ltb place (length o.ends) near);
    }

pub offers_in_order : OffersInOrder
offers_in_order = record {
  named = λ o k. (named_is o k, is_named o k);
  none = none_is;
}
