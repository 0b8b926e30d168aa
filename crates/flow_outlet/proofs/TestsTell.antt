-- The tests of what the calls by link require tell exactly that.
use Rattle.std.proofs.Common.{◌≡◌, ℕ, ◌↔◌, ◌&&◌, ◌||◌, not, ltb, Bool, true, false, length, Option, Some, None, is_some, refl, ap}
use Rattle.std.proofs.lemmas.Bool.{OnTrue_at, OnTrue_from, and_from, and_parts, not-true, ltb-true, lt-ltb}
use Rattle.flow_link.specs.declared.stage.SourceStage.{SourceStage}
use Rattle.flow_link.specs.declared.stage.SourceStage.TheVariants.{Free, Posted, Out, Waiting, Accepted, Wished, AskedBy, Reserved, Claimed, Crossing, Refused, Ended}
use Rattle.flow_link.specs.LinkOk.{HasRoom}
use Rattle.flow_outlet.specs.Outlet.{OutletState, end_at, stage_at, is_at, has_offer_out}
use Rattle.flow_outlet.specs.ByLink.{IsAsked, MayConsume, MayTake, place_of, is_taken, is_offered, has_room, tests_asked, tests_take, tests_consume, is_there, MayReserve, IsReserved, is_waiting_for, is_kept_for, tests_reserve, tests_reserved}
use Rattle.flow_outlet.proofs.StagesTell.{same_number, number_same}

pub record All (a b c : Bool) : Type 0 where
  pub first : a ≡ true
  pub second : b ≡ true
  pub third : c ≡ true

all_three : (a b c : Bool) → (a && b && c) ≡ true → All a b c
all_three true true true e = record { first = refl; second = refl; third = refl }
all_three true true false e = cc
all_three true false _ e = cc
all_three false _ _ e = cc

pub three_all : (a b c : Bool) → a ≡ true → b ≡ true → c ≡ true → (a && b && c) ≡ true
three_all true true true p q r = refl
three_all true true false p q r = cc
three_all true false _ p q r = cc
three_all false _ _ p q r = cc

offered_is : (header : ℕ) (stage : SourceStage) → is_offered header stage ≡ true → stage ≡ Out header
offered_is header (Out i) e = let same : i ≡ header = same_number i header e in cc
offered_is header Free e = cc
offered_is header (Posted _) e = cc
offered_is header (Waiting _) e = cc
offered_is header (Accepted _) e = cc
offered_is header (Wished _) e = cc
offered_is header (AskedBy _) e = cc
offered_is header (Reserved _) e = cc
offered_is header (Claimed _) e = cc
offered_is header Crossing e = cc
offered_is header Refused e = cc
offered_is header (Ended _) e = cc

pub at_is : (offer : Option ℕ) (k : ℕ) → is_at offer k ≡ true → offer ≡ Some k
at_is None k e = cc
at_is (Some j) k e = let same : j ≡ k = same_number j k e in cc

pub asked_tells : (link header : ℕ) (o : OutletState)
    → (tests_asked (place_of link o.ends) header o ≡ true) ↔ IsAsked link header o
asked_tells link header o =
    let k = place_of link o.ends in (
      λ e.
          let all = all_three (ltb k (length o.ends)) (is_offered header (stage_at o k)) (is_at o.offer k) e in
          record {
            known = ltb-true k (length o.ends) all.first;
            unanswered = offered_is header (stage_at o k) all.second;
            out = at_is o.offer k all.third;
          },
      λ asked. three_all (ltb k (length o.ends)) (is_offered header (stage_at o k)) (is_at o.offer k) (lt-ltb k (length o.ends) asked.known)
          (rw (asked.unanswered) (number_same header)) (rw (asked.out) (number_same k)),
    )

room_is : (max : Option ℕ) (given : ℕ) → has_room max given ≡ true → HasRoom max given
room_is None given e = tt
room_is (Some max) given e = ltb-true given max e

is_room : (max : Option ℕ) (given : ℕ) → HasRoom max given → has_room max given ≡ true
is_room None given room = refl
is_room (Some max) given room = lt-ltb given max room

take_is : (k : ℕ) (o : OutletState) → tests_take k o ≡ true → MayTake k o
take_is k o e =
    let all = all_three (is_taken o.next (is_some o.offer) (stage_at o k)) (is_some o.parcel) (has_room (end_at o k).rule.max (end_at o k).given) e in
    record { taken = all.first; ready = all.second; room = room_is (end_at o k).rule.max (end_at o k).given all.third }

is_take : (k : ℕ) (o : OutletState) → MayTake k o → tests_take k o ≡ true
is_take k o may = three_all (is_taken o.next (is_some o.offer) (stage_at o k)) (is_some o.parcel) (has_room (end_at o k).rule.max (end_at o k).given)
    may.taken may.ready (is_room (end_at o k).rule.max (end_at o k).given may.room)

there_then : (there head test : Bool) → (there && (not head || test)) ≡ true → (there ≡ true) × (head ≡ true → test ≡ true)
there_then true true true e = (refl, λ h. refl)
there_then true true false e = cc
there_then true false test e = (refl, λ h. cc)
there_then false head test e = cc

then_there : (there head test : Bool) → there ≡ true → (head ≡ true → test ≡ true) → (there && (not head || test)) ≡ true
then_there true true test e f = f refl
then_there true false test e f = refl
then_there false head test e f = cc

pub consume_tells : (link header : ℕ) (o : OutletState)
    → (tests_consume (place_of link o.ends) header o ≡ true) ↔ MayConsume link header o
consume_tells link header o =
    let k = place_of link o.ends in (
      λ e.
          let all = there_then (ltb k (length o.ends)) (is_there k header o) (tests_take k o) e in
          record {
            known = ltb-true k (length o.ends) all.0;
            there = OnTrue_from (is_there k header o) _ (λ h. take_is k o (all.1 h));
          },
      λ may. then_there (ltb k (length o.ends)) (is_there k header o) (tests_take k o) (lt-ltb k (length o.ends) may.known)
          (λ h. is_take k o (OnTrue_at h may.there)),
    )

-- What is kept

pub waiting_is : (header : ℕ) (stage : SourceStage) → is_waiting_for header stage ≡ true → stage ≡ Waiting header
waiting_is header (Waiting i) e = let same : i ≡ header = same_number i header e in ap Waiting same
waiting_is header stage e = absurd (cc)

kept_is : (header : ℕ) (stage : SourceStage) → is_kept_for header stage ≡ true → stage ≡ Reserved header
kept_is header (Reserved i) e = let same : i ≡ header = same_number i header e in ap Reserved same
kept_is header stage e = absurd (cc)

pub reserve_tells : (link header : ℕ) (o : OutletState)
    → (tests_reserve (place_of link o.ends) header o ≡ true) ↔ MayReserve link header o
reserve_tells link header o =
    let k = place_of link o.ends in (
      λ e.
          let all = all_three (ltb k (length o.ends)) (is_waiting_for header (stage_at o k)) (not (has_offer_out o)) e in
          record {
            known = ltb-true k (length o.ends) all.first;
            waits = waiting_is header (stage_at o k) all.second;
            none_out = not-true (has_offer_out o) all.third;
          },
      λ may. three_all (ltb k (length o.ends)) (is_waiting_for header (stage_at o k)) (not (has_offer_out o))
          (lt-ltb k (length o.ends) may.known) (rw (may.waits) (number_same header)) (ap not may.none_out),
    )

pub reserved_tells : (link header : ℕ) (o : OutletState)
    → (tests_reserved (place_of link o.ends) header o ≡ true) ↔ IsReserved link header o
reserved_tells link header o =
    let k = place_of link o.ends in (
      λ e.
          let both = and_parts (ltb k (length o.ends)) (is_kept_for header (stage_at o k)) e in
          record { known = ltb-true k (length o.ends) both.0; kept = kept_is header (stage_at o k) both.1 },
      λ kept. and_from (ltb k (length o.ends)) (is_kept_for header (stage_at o k)) (lt-ltb k (length o.ends) kept.known)
          (rw (kept.kept) (number_same header)),
    )
