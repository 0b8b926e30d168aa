-- Offers, and what is put into an outlet, keep it in order.
use Rattle.std.proofs.Common.{◌≡◌, ℕ, ◌+◌, ◌-◌, ◌^◌, ◌<◌, ◌≤◌, ◌==◌, ◌||◌, Bool, true, false, List, [], ◌∷◌, ◌++◌, length, set, Option, Some, None, refl, sym, ◌∙◌, subst, inl, inr, arith}
use Rattle.std.specs.Bool.{OnTrue}
use Rattle.std.proofs.lemmas.Bool.{cases_eq, OnTrue_at, OnTrue_from, not-false}
use Rattle.std.proofs.lemmas.Bool.Decides.{nat_tests}
use Rattle.std.proofs.lemmas.List.{length-append, get_or-set_same, get_or-set_other}
use Rattle.flow_value.specs.When.{admits}
use Rattle.flow_value.specs.declared.value.Value.{Value}
use Rattle.flow_value.specs.declared.when.When.{When}
use Rattle.flow_link.specs.declared.phase.LinkEnd.{LinkEnd}
use Rattle.flow_link.specs.declared.phase.Phase.{Phase}
use Rattle.flow_link.specs.declared.stage.SourceStage.{SourceStage}
use Rattle.flow_link.specs.declared.stage.SourceStage.TheVariants.{Free, Out, Ended}
use Rattle.flow_link.specs.declared.trace.Outcome.{Outcome}
use Rattle.flow_link.specs.LinkOk.{IsWithin, HasRoom}
use Rattle.flow_link.specs.Stage.{source_looks, source_is_released}
use Rattle.flow_link.proofs.ListTests.{never_both}
use Rattle.flow_outlet.specs.declared.ends.OutEnd.{OutEnd}
use Rattle.flow_outlet.specs.End.{id_of, speaks_of, is_spoken_for, is_over, is_cut, is_limit, rejects, no_end}
use Rattle.flow_outlet.specs.Outlet.{OutletState, head_of, first_of, is_empty, end_at, stage_at, end_of, may_offer, offers, looks, offer_kept, changes, puts, sets_aside, puts_aside, lacks_ids, lacks_ids_for, prepares}
use Rattle.flow_outlet.specs.Law.{EndLaw, OutletLaw, is_put_off, is_posted, is_refused, admits_head}
use Rattle.flow_outlet.proofs.LookTells.{look_tells}
use Rattle.flow_outlet.proofs.OutletFits.{ids_there, ids_there_for}
use Rattle.flow_outlet.proofs.OffersInOrder.{offers_in_order}
use Rattle.flow_outlet.proofs.OneEndChanges.{one_changes}
use Rattle.flow_outlet.proofs.StagesTell.{free_is, goes_past_well, id_speaks, kept_mine, kept_other, kept_out, none_true, number_same, out_speaks, past_stays, speaks_id, was_offer}

below_limit : (max : Option ℕ) (given : ℕ) → IsWithin max given → is_limit max given ≡ false → HasRoom max given
below_limit None given within e = tt
below_limit (Some max) given within e = grind (arith, nat_tests)

head_admits : (when : When) (left : List Value) → is_empty left ≡ false → rejects when (first_of left) ≡ false
    → admits_head when (first_of left) ≡ true
head_admits when [] e r = cc
head_admits when (value ∷ left) e r = not-false (admits when value) r

-- whether the head is to be offered anew is no matter of the law
renewed : {pending : Bool} {stopped : Option Outcome} (o : OutletState) (renewing : Bool) → OutletLaw pending stopped o
    → OutletLaw pending stopped (record o { renewing = renewing })
renewed o renewing law = record {
  begins = law.begins;
  ids = law.ids;
  each = law.each;
  offer_there = law.offer_there;
  offer_out = law.offer_out;
  ready = law.ready;
  in_order = law.in_order;
}

module _ {pending : Bool} {stopped : Option Outcome} (o : OutletState) (law : OutletLaw pending stopped o) (k : ℕ) (here : k < length o.ends) where
  -- an end that goes to a stage that speaks of nothing new, and makes no offer
  pub settles_keep : (stage : SourceStage) (declined : ℕ)
      → id_of stage ≡ None → is_spoken_for stage ≡ false → is_posted stage ≡ false → is_put_off stage ≡ false
      → (is_spoken_for (stage_at o k) ≡ false)
      → ((how : LinkEnd) → stage ≡ Ended how → end_of (end_at o k) stopped ≡ Some how)
      → (is_refused (stage_at o k) ≡ true → is_refused stage ≡ true)
      → declined ≤ o.next
      → ((declined == o.next) ≡ true → (pending ≡ true) × ((end_at o k).rule.steady ≡ false))
      → OutletLaw pending stopped (changes k stage declined o)
  settles_keep stage declined no_id not_out not_posted not_off was_home ended refused low up =
      let old = law.each k here in
      let end = end_at o k in
      let silent : speaks_of o.next stage ≡ true → ⊥ = λ e. let none : None ≡ Some o.next = sym no_id ∙ speaks_id o.next stage e in let never : ⊥ = cc in never in
      one_changes o law k here (record end { declined = declined; stage = stage }) o.offer
      (record {
        risen = old.risen;
        none_later = λ i e. let none : None ≡ Some i = sym no_id ∙ e in cc;
        declined_before = low;
        out = OnTrue_from (is_spoken_for stage) _ (λ e. never_both (is_spoken_for stage) e not_out);
        out_head = OnTrue_from (is_spoken_for stage) _ (λ e. never_both (is_spoken_for stage) e not_out);
        offers = not_posted;
        admitted = OnTrue_from (speaks_of o.next stage) _ (λ e. absurd (silent e));
        put_off = OnTrue_from (is_put_off stage) _ (λ e. never_both (is_put_off stage) e not_off);
        within = old.within;
        room = λ i e. let none : None ≡ Some i = sym no_id ∙ e in absurd (let never : ⊥ = cc in never);
        ended = ended;
        given_up = OnTrue_from (declined == o.next) _ (λ e. (up e).0);
        given_up_late = OnTrue_from (declined == o.next) _ (λ e. (up e).1);
      })
      (λ j l other out. OnTrue_at out (law.each j l).out)
      law.offer_there
      (λ j e. elim (cases_eq j k) [
        | inl same ↦ never_both (is_spoken_for (stage_at o k)) (let there : is_spoken_for (stage_at o k) ≡ true = rw same at (law.offer_out j e) in there) was_home
        | inr other ↦ rw (get_or-set_other o.ends k j (record end { declined = declined; stage = stage }) no_end other) (law.offer_out j e)
      ])
      (λ e. absurd (silent e))
      (λ j l e. absurd (silent e))
      (past_stays (rejects end.rule.when (head_of o)) end.rule.steady (is_cut end) (is_refused (stage_at o k)) (is_refused stage) refused)

  pub looks_keep : (phase : Phase) → OnTrue (is_put_off (source_looks (stage_at o k) phase)) ((end_at o k).rule.steady ≡ false)
      → OutletLaw pending stopped (looks k phase o)
  looks_keep phase off =
      let old = law.each k here in
      let end = end_at o k in
      let stage = source_looks (stage_at o k) phase in
      let tells = look_tells (stage_at o k) phase in
      let offer = offer_kept k stage o.offer in
      let spoke : speaks_of o.next stage ≡ true → speaks_of o.next (stage_at o k) ≡ true =
      λ e. id_speaks o.next (stage_at o k) (tells.same_id o.next (speaks_id o.next stage e)) in
      renewed (record o { ends = set o.ends k (record end { stage = stage }); offer = offer }) (o.renewing || source_is_released (stage_at o k) phase)
      (one_changes o law k here (record end { stage = stage }) offer
      (record {
        risen = old.risen;
        none_later = λ i e. old.none_later i (tells.same_id i e);
        declined_before = old.declined_before;
        out = OnTrue_from (is_spoken_for stage) _ (λ e. kept_mine k stage o.offer e (OnTrue_at (tells.was_spoken old.offers e) old.out));
        out_head = OnTrue_from (is_spoken_for stage) _ (λ e. out_speaks stage o.next e
            (λ i is. let was : id_of (stage_at o k) ≡ Some i = tells.same_id i is in
            let spoken : speaks_of o.next (stage_at o k) ≡ true = OnTrue_at (tells.was_spoken old.offers e) old.out_head in
            let id : id_of (stage_at o k) ≡ Some o.next = speaks_id o.next (stage_at o k) spoken in cc));
        offers = tells.not_posted old.offers;
        admitted = OnTrue_from (speaks_of o.next stage) _ (λ e. OnTrue_at (spoke e) old.admitted);
        put_off = off;
        within = old.within;
        room = λ i e. old.room i (tells.same_id i e);
        ended = λ how e. old.ended how (tells.ended how e);
        given_up = old.given_up;
        given_up_late = old.given_up_late;
      })
      (λ j l other out. kept_other k j stage o.offer other (OnTrue_at out (law.each j l).out))
      (λ j e. law.offer_there j (was_offer k stage o.offer j e))
      (λ j e. elim (cases_eq j k) [
        | inl same ↦ rw (same, get_or-set_same o.ends k (record end { stage = stage }) no_end here) (kept_out k stage o.offer (rw same at e))
        | inr other ↦ rw (get_or-set_other o.ends k j (record end { stage = stage }) no_end other) (law.offer_out j (was_offer k stage o.offer j e))
      ])
      (λ e. law.ready k here (spoke e))
      (λ j l e. law.in_order j k l here (spoke e))
      (past_stays (rejects end.rule.when (head_of o)) end.rule.steady (is_cut end) (is_refused (stage_at o k)) (is_refused stage) tells.refused))

pub offers_keep : (pending : Bool) (o : OutletState) → OutletLaw pending None o → (k : ℕ) → may_offer o ≡ Some k
    → o.parcel ≡ head_of o → OutletLaw pending None (offers k o)
offers_keep pending o law k may ready =
    let next = (offers_in_order.named o k).0 may in
    let old = law.each k next.there in
    let end = end_at o k in
    let stage = Out o.next in
    let free : stage_at o k ≡ Free = free_is (stage_at o k) next.free in
    let none = none_true (is_over end.stage) (is_cut end) (speaks_of o.next end.stage) (end.declined == o.next) (rejects end.rule.when (head_of o)) next.stops in
    renewed (record o { ends = set o.ends k (record end { stage = stage }); offer = Some k }) false
    (one_changes o law k next.there (record end { stage = stage }) (Some k)
    (record {
      risen = old.risen;
      none_later = λ i e. let same : o.next ≡ i = cc in omega arith;
      declined_before = old.declined_before;
      out = refl;
      out_head = number_same o.next;
      offers = refl;
      admitted = OnTrue_from (o.next == o.next) _ (λ _. head_admits end.rule.when o.left next.some_left none.rejected);
      put_off = tt;
      within = old.within;
      room = λ _ _. below_limit end.rule.max end.given old.within none.cut;
      ended = λ how e. cc;
      given_up = old.given_up;
      given_up_late = old.given_up_late;
    })
    (λ j l other out. let mine : o.offer ≡ Some j = OnTrue_at out (law.each j l).out in let none : None ≡ Some j = sym next.none_out ∙ mine in cc)
    (λ j e. let same : k ≡ j = cc in subst (λ (n : ℕ). n < length o.ends) same next.there)
    (λ j e. let same : j ≡ k = cc in rw (same, get_or-set_same o.ends k (record end { stage = stage }) no_end next.there) refl)
    (λ _. ready)
    (λ j l _. goes_past_well (end_at o j)
    (subst (λ (offer : Option ℕ). EndLaw o.next (head_of o) offer pending None j (end_at o j)) next.none_out
    (law.each j (let near : j < length o.ends = omega (arith, l, next.there) in near))) (next.earlier j l))
    (past_stays (rejects end.rule.when (head_of o)) end.rule.steady (is_cut end) (is_refused (stage_at o k)) false
    (λ e. let no : is_refused Free ≡ true = rw free at e in cc)))

-- What is put

put_each : (left values : List Value) (next k : ℕ) (end : OutEnd) (offer : Option ℕ) (pending : Bool) (stopped : Option Outcome)
    → EndLaw next (first_of left) offer pending stopped k end → EndLaw next (first_of (left ++ values)) offer pending stopped k end
put_each (value ∷ left) values next k end offer pending stopped law = law
put_each [] values next k end offer pending stopped law = record {
  risen = law.risen;
  none_later = law.none_later;
  declined_before = law.declined_before;
  out = law.out;
  out_head = law.out_head;
  offers = law.offers;
  admitted = OnTrue_from (speaks_of next end.stage) _ (λ e. let no : false ≡ true = OnTrue_at e law.admitted in cc);
  put_off = law.put_off;
  within = law.within;
  room = law.room;
  ended = law.ended;
  given_up = law.given_up;
  given_up_late = law.given_up_late;
}

head_stays : (left values : List Value) (when : When) → admits_head when (first_of left) ≡ true
    → first_of (left ++ values) ≡ first_of left
head_stays [] values when e = cc
head_stays (value ∷ left) values when e = refl

-- what is put keeps the law, where the ids of it and of what is set aside fit then
put_keeps : (pending : Bool) (stopped : Option Outcome) (o : OutletState) → OutletLaw pending stopped o
    → (values : List Value) (weight spare : ℕ) → o.next + length (o.left ++ values) + spare ≤ 2 ^ 59
    → OutletLaw pending stopped (record (puts values weight o) { spare = spare })
put_keeps pending stopped o law values weight spare fit =
    let stays = λ (k : ℕ) (l : k < length o.ends) (e : speaks_of o.next (stage_at o k) ≡ true).
    head_stays o.left values (end_at o k).rule.when (OnTrue_at e (law.each k l).admitted) in
    record {
      begins = law.begins;
      ids = fit;
      each = λ k l. put_each o.left values o.next k (end_at o k) o.offer pending stopped (law.each k l);
      offer_there = law.offer_there;
      offer_out = law.offer_out;
      ready = λ k l e. law.ready k l e ∙ sym (stays k l e);
      in_order = λ j k before l e. rw (stays k l e) (law.in_order j k before l e);
    }

pub puts_keep : (pending : Bool) (stopped : Option Outcome) (o : OutletState) → OutletLaw pending stopped o
    → (values : List Value) (weight : ℕ) → lacks_ids values o ≡ false → OutletLaw pending stopped (puts values weight o)
puts_keep pending stopped o law values weight enough =
    put_keeps pending stopped o law values weight o.spare
    (omega (arith, ids_there values o.left o.next o.spare law.ids enough, length-append o.left values))

pub puts_aside_keep : (pending : Bool) (stopped : Option Outcome) (o : OutletState) → OutletLaw pending stopped o
    → (values : List Value) (weight : ℕ) → length values ≤ o.spare → OutletLaw pending stopped (puts_aside values weight o)
puts_aside_keep pending stopped o law values weight aside =
    put_keeps pending stopped o law values weight (o.spare - length values)
    (omega (arith, law.ids, aside, length-append o.left values))

pub sets_aside_keep : (pending : Bool) (stopped : Option Outcome) (o : OutletState) → OutletLaw pending stopped o
    → (count : ℕ) → lacks_ids_for count o ≡ false → OutletLaw pending stopped (sets_aside count o)
sets_aside_keep pending stopped o law count enough = record {
  begins = law.begins;
  ids = omega (arith, ids_there_for count (o.next + length o.left + o.spare) law.ids enough);
  each = law.each;
  offer_there = law.offer_there;
  offer_out = law.offer_out;
  ready = law.ready;
  in_order = law.in_order;
}

pub prepares_keep : (pending : Bool) (stopped : Option Outcome) (o : OutletState) → OutletLaw pending stopped o
    → OutletLaw pending stopped (prepares o)
prepares_keep pending stopped o law = record {
  begins = law.begins;
  ids = law.ids;
  each = law.each;
  offer_there = law.offer_there;
  offer_out = law.offer_out;
  ready = λ k l e. refl;
  in_order = law.in_order;
}

pub room_keeps : (pending : Bool) (stopped : Option Outcome) (o : OutletState) → OutletLaw pending stopped o
    → OutletLaw pending stopped (record o { room = 0 })
room_keeps pending stopped o law = record {
  begins = law.begins;
  ids = law.ids;
  each = law.each;
  offer_there = law.offer_there;
  offer_out = law.offer_out;
  ready = law.ready;
  in_order = law.in_order;
}
