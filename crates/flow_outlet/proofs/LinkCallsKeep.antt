-- The calls that name a link keep the outlet's law.
use Rattle.std.proofs.Common.{◌≡◌, ◌≢◌, ℕ, ◌<◌, ◌≤◌, ◌==◌, cond, not, is_some, subst, eqb-true, zero, suc, Bool, true, false, List, [], ◌∷◌, length, map, Option, Some, None, refl, sym, ◌∙◌, ap, arith}
use Rattle.std.proofs.lemmas.Bool.{OnTrue_at, OnTrue_from, and_parts}
use Rattle.std.proofs.lemmas.List.{length-map, length-set, get_or-set_same}
use Rattle.flow_link.specs.Stage.{source_looks}
use Rattle.flow_value.specs.declared.message.MessageStatus.{MessageStatus}
use Rattle.flow_value.specs.declared.message.MessageStatus.TheVariants as status
use Rattle.flow_link.specs.declared.stage.SourceStage.{SourceStage}
use Rattle.flow_link.specs.declared.phase.Phase.TheVariants as phase
use Rattle.flow_link.specs.declared.stage.SourceStage.TheVariants.{Free, Out, Waiting, Accepted, AskedBy, Reserved, Refused}
use Rattle.flow_link.specs.declared.trace.Outcome.{Outcome}
use Rattle.flow_outlet.specs.declared.ends.OutEnd.{OutEnd}
use Rattle.flow_outlet.specs.End.{id_of, speaks_of, is_spoken_for, is_cut, rejects, end_in, no_end}
use Rattle.flow_outlet.specs.Outlet.{OutletState, head_of, end_at, stage_at, changes, is_empty, looks, may_hold, holds, offer_kept}
use Rattle.flow_outlet.specs.ByLink.{answered, place_of, forgets, forgotten, forgotten_stage, forgets_all, forgotten_for, is_head as head_is, reserved}
use Rattle.flow_outlet.specs.Law.{EndLaw, OutletLaw, is_put_off, is_refused, may_go_past}
use Rattle.flow_outlet.specs.KeepsByLink.{LinkCallsKeepLaw, settles_it}
use Rattle.flow_outlet.proofs.OffersKeepLaw.{looks_keep}
use Rattle.flow_outlet.proofs.EndsKeepLaw.{holds_keep}
use Rattle.flow_outlet.proofs.LookTells.{LookTells}
use Rattle.flow_outlet.proofs.OneEndChanges.{one_changes}
use Rattle.flow_outlet.proofs.StagesTell.{speaks_id, id_speaks, number_same, past_stays}

module _ {stopped : Option Outcome} (o : OutletState) (law : OutletLaw true stopped o) (k header : ℕ) (here : k < length o.ends) (is : stage_at o k ≡ Out header) (out : o.offer ≡ Some k) where
  is_head : speaks_of o.next (stage_at o k) ≡ true
  is_head = OnTrue_at (ap is_spoken_for is) (law.each k here).out_head

  header_is : header ≡ o.next
  header_is = let id : id_of (stage_at o k) ≡ Some o.next = speaks_id o.next (stage_at o k) is_head in
      let mine : id_of (stage_at o k) ≡ Some header = ap id_of is in cc

  alone : (j : ℕ) → j < length o.ends → j ≢ k → is_spoken_for (stage_at o j) ≡ true → ⊥
  alone j l other also = let theirs : o.offer ≡ Some j = OnTrue_at also (law.each j l).out in
      other (let same : Some j ≡ Some k = sym theirs ∙ out in cc)

  refused_not : (stage : SourceStage) → is_refused (stage_at o k) ≡ true → is_refused stage ≡ true
  refused_not stage e = let no : is_refused (Out header) ≡ true = sym (ap is_refused is) ∙ e in cc

  -- the offer is not out any more
  off_keeps : (stage : SourceStage) (declined : ℕ)
      → EndLaw o.next (head_of o) None true stopped k (record (end_at o k) { declined = declined; stage = stage })
      → OutletLaw true stopped (record (changes k stage declined o) { offer = None })
  off_keeps stage declined end =
      one_changes o law k here (record (end_at o k) { declined = declined; stage = stage }) None end
      (λ j l other e. absurd (alone j l other e))
      (λ j e. cc)
      (λ j e. cc)
      (λ _. law.ready k here is_head)
      (λ j l _. law.in_order j k l here is_head)
      (past_stays (rejects (end_at o k).rule.when (head_of o)) (end_at o k).rule.steady (is_cut (end_at o k)) (is_refused (stage_at o k))
      (is_refused stage) (refused_not stage))

  waits_keep : (end_at o k).rule.steady ≡ false → OutletLaw true stopped (answered status.Postponed header k o)
  waits_keep unsteady =
      let old = law.each k here in
      off_keeps (Waiting header) (end_at o k).declined
      (record {
        risen = old.risen;
        none_later = λ i e. let same : header ≡ i = cc in omega (arith, header_is);
        declined_before = old.declined_before;
        out = tt;
        out_head = tt;
        offers = refl;
        admitted = OnTrue_from (header == o.next) _ (λ _. OnTrue_at is_head old.admitted);
        put_off = unsteady;
        within = old.within;
        room = λ i e. old.room o.next (speaks_id o.next (stage_at o k) is_head);
        ended = λ how e. cc;
        given_up = old.given_up;
        given_up_late = old.given_up_late;
      })

  declines_keep : (end_at o k).rule.steady ≡ false → OutletLaw true stopped (answered status.Declined header k o)
  declines_keep unsteady =
      let old = law.each k here in
      off_keeps Free header
      (record {
        risen = old.risen;
        none_later = λ i e. cc;
        declined_before = omega (arith, header_is);
        out = tt;
        out_head = tt;
        offers = refl;
        admitted = tt;
        put_off = tt;
        within = old.within;
        room = λ i e. absurd (let never : ⊥ = cc in never);
        ended = λ how e. cc;
        given_up = OnTrue_from (header == o.next) _ (λ _. refl);
        given_up_late = OnTrue_from (header == o.next) _ (λ _. unsteady);
      })

  refuses_keep : OutletLaw true stopped (answered status.DecliningPermanently header k o)
  refuses_keep =
      let old = law.each k here in
      off_keeps Refused (end_at o k).declined
      (record {
        risen = old.risen;
        none_later = λ i e. cc;
        declined_before = old.declined_before;
        out = tt;
        out_head = tt;
        offers = refl;
        admitted = tt;
        put_off = tt;
        within = old.within;
        room = λ i e. absurd (let never : ⊥ = cc in never);
        ended = λ how e. cc;
        given_up = old.given_up;
        given_up_late = old.given_up_late;
      })

  accepts_keep : OutletLaw true stopped (answered status.Accepted header k o)
  accepts_keep =
      let old = law.each k here in
      let end = record (end_at o k) { stage = Accepted header } in
      one_changes o law k here end o.offer
      (record {
        risen = old.risen;
        none_later = λ i e. let same : header ≡ i = cc in omega (arith, header_is);
        declined_before = old.declined_before;
        out = out;
        out_head = rw header_is (number_same o.next);
        offers = refl;
        admitted = OnTrue_from (header == o.next) _ (λ _. OnTrue_at is_head old.admitted);
        put_off = tt;
        within = old.within;
        room = λ i e. old.room o.next (speaks_id o.next (stage_at o k) is_head);
        ended = λ how e. cc;
        given_up = old.given_up;
        given_up_late = old.given_up_late;
      })
      (λ j l other e. absurd (alone j l other e))
      law.offer_there
      (λ j e. let same : j ≡ k = (let both : Some j ≡ Some k = sym e ∙ out in cc) in rw (same, get_or-set_same o.ends k end no_end here) refl)
      (λ _. law.ready k here is_head)
      (λ j l _. law.in_order j k l here is_head)
      (past_stays (rejects (end_at o k).rule.when (head_of o)) (end_at o k).rule.steady (is_cut (end_at o k)) (is_refused (stage_at o k))
      false (refused_not (Accepted header)))

  answers_keep : (answer : MessageStatus) → (settles_it answer ≡ false → (end_at o k).rule.steady ≡ false)
      → OutletLaw true stopped (answered answer header k o)
  answers_keep status.Accepted late = accepts_keep
  answers_keep status.Declined late = declines_keep (late refl)
  answers_keep status.Postponed late = waits_keep (late refl)
  answers_keep status.NotAvailable late = declines_keep (late refl)
  answers_keep status.DecliningPermanently late = refuses_keep

-- What is forgotten

forgotten_tells : (stage : SourceStage) → LookTells stage (forgotten_stage stage)
forgotten_tells (Waiting i) = record { same_id = λ _ e. cc; was_out = λ p e. cc; was_spoken = λ p e. cc; not_posted = λ p. refl; ended = λ _ e. cc; refused = λ e. cc }
forgotten_tells stage = record { same_id = λ _ e. e; was_out = λ p e. e; was_spoken = λ p e. e; not_posted = λ p. p; ended = λ _ e. e; refused = λ e. e }

out_stays : (stage : SourceStage) → is_spoken_for stage ≡ true → forgotten_stage stage ≡ stage
out_stays (Waiting _) e = cc
out_stays stage e = refl

off_before : (stage : SourceStage) → is_put_off (forgotten_stage stage) ≡ true → is_put_off stage ≡ true
off_before (Waiting _) e = refl
off_before stage e = e

end_forgotten : (ends : List OutEnd) (k : ℕ) → end_in (map forgotten ends) k ≡ forgotten (end_in ends k)
end_forgotten [] k = refl
end_forgotten (end ∷ ends) zero = refl
end_forgotten (end ∷ ends) (suc k) = end_forgotten ends k

module _ {pending : Bool} {stopped : Option Outcome} (o : OutletState) (law : OutletLaw pending stopped o) where
  spoke : (stage : SourceStage) → speaks_of o.next (forgotten_stage stage) ≡ true → speaks_of o.next stage ≡ true
  spoke stage e = id_speaks o.next stage ((forgotten_tells stage).same_id o.next (speaks_id o.next (forgotten_stage stage) e))

  forgotten_each : (k : ℕ) (end : OutEnd) → EndLaw o.next (head_of o) o.offer pending stopped k end
      → EndLaw o.next (head_of o) o.offer pending stopped k (forgotten end)
  forgotten_each k end old =
      let stage = forgotten_stage end.stage in
      let tells = forgotten_tells end.stage in
      record {
        risen = old.risen;
        none_later = λ i e. old.none_later i (tells.same_id i e);
        declined_before = old.declined_before;
        out = OnTrue_from (is_spoken_for stage) _ (λ e. OnTrue_at (tells.was_spoken old.offers e) old.out);
        out_head = OnTrue_from (is_spoken_for stage) _ (λ e.
            let was : is_spoken_for end.stage ≡ true = tells.was_spoken old.offers e in
            ap (speaks_of o.next) (out_stays end.stage was) ∙ OnTrue_at was old.out_head);
        offers = tells.not_posted old.offers;
        admitted = OnTrue_from (speaks_of o.next stage) _ (λ e. OnTrue_at (spoke end.stage e) old.admitted);
        put_off = OnTrue_from (is_put_off stage) _ (λ e. OnTrue_at (off_before end.stage e) old.put_off);
        within = old.within;
        room = λ i e. old.room i (tells.same_id i e);
        ended = λ how e. old.ended how (tells.ended how e);
        given_up = old.given_up;
        given_up_late = old.given_up_late;
      }

  stage_forgotten : (k : ℕ) → (end_in (map forgotten o.ends) k).stage ≡ forgotten_stage (stage_at o k)
  stage_forgotten k = ap (λ (end : OutEnd). end.stage) (end_forgotten o.ends k)

  forgets_keep : OutletLaw pending stopped (forgets o)
  forgets_keep = record {
    begins = law.begins;
    ids = law.ids;
    each = λ k l. rw (end_forgotten o.ends k) (forgotten_each k (end_at o k) (law.each k (let near : k < length o.ends = omega (arith, l, length-map o.ends forgotten) in near)));
    offer_there = λ k e. omega (arith, law.offer_there k e, length-map o.ends forgotten);
    offer_out = λ k e. ap is_spoken_for (stage_forgotten k) ∙ ap is_spoken_for (out_stays (stage_at o k) (law.offer_out k e)) ∙ law.offer_out k e;
    ready = λ k l e. law.ready k (let near : k < length o.ends = omega (arith, l, length-map o.ends forgotten) in near)
        (spoke (stage_at o k) (sym (ap (speaks_of o.next) (stage_forgotten k)) ∙ e));
    in_order = λ j k before l e.
        let all = law.in_order j k before (let near : k < length o.ends = omega (arith, l, length-map o.ends forgotten) in near)
        (spoke (stage_at o k) (sym (ap (speaks_of o.next) (stage_forgotten k)) ∙ e)) in
        ap (may_go_past (head_of o)) (end_forgotten o.ends j)
        ∙ past_stays (rejects (end_at o j).rule.when (head_of o)) (end_at o j).rule.steady (is_cut (end_at o j)) (is_refused (stage_at o j))
        (is_refused (forgotten_stage (stage_at o j))) (forgotten_tells (stage_at o j)).refused all;
  }

-- What is forgotten of a message that is released

zero_either : (b : Bool) → ◌≡◌ {A = ℕ} (cond b 0 0) 0
zero_either true = refl
zero_either false = refl

end_forgotten_for : (id : ℕ) (ends : List OutEnd) (k : ℕ) → 1 ≤ id → end_in (map (forgotten_for id) ends) k ≡ forgotten_for id (end_in ends k)
end_forgotten_for id [] k one = ap (λ (d : ℕ). record no_end { declined = d }) (sym (zero_either (0 == id)))
end_forgotten_for id (end ∷ ends) zero one = refl
end_forgotten_for id (end ∷ ends) (suc k) one = end_forgotten_for id ends k one

never_given_up : (declined next : ℕ) → 1 ≤ next → (cond (declined == next) 0 declined == next) ≡ true → ⊥
never_given_up declined next one e = by (declined == next) refl
  where
    zero_not : (n : ℕ) → 1 ≤ n → (0 == n) ≡ true → ⊥
    zero_not n one e = let same : 0 ≡ n = eqb-true 0 n e in omega arith

    by : (b : Bool) → (declined == next) ≡ b → ⊥
    by true is = zero_not next one (subst (λ (b : Bool). (cond b 0 declined == next) ≡ true) is e)
    by false is = let no : false ≡ true = sym is ∙ subst (λ (b : Bool). (cond b 0 declined == next) ≡ true) is e in cc

declined_less : (b : Bool) (declined next : ℕ) → declined ≤ next → cond b 0 declined ≤ next
declined_less true declined next l = omega arith
declined_less false declined next l = l

module _ {pending : Bool} {stopped : Option Outcome} (o : OutletState) (law : OutletLaw pending stopped o) where
  forgotten_for_each : (k : ℕ) (end : OutEnd) → EndLaw o.next (head_of o) o.offer pending stopped k end
      → EndLaw o.next (head_of o) o.offer pending stopped k (forgotten_for o.next end)
  forgotten_for_each k end old =
      let kept = forgotten_each o law k end old in
      record {
        risen = kept.risen;
        none_later = kept.none_later;
        declined_before = declined_less (end.declined == o.next) end.declined o.next old.declined_before;
        out = kept.out;
        out_head = kept.out_head;
        offers = kept.offers;
        admitted = kept.admitted;
        put_off = kept.put_off;
        within = kept.within;
        room = kept.room;
        ended = kept.ended;
        given_up = OnTrue_from (cond (end.declined == o.next) 0 end.declined == o.next) _ (λ e. absurd (never_given_up end.declined o.next law.begins e));
        given_up_late = OnTrue_from (cond (end.declined == o.next) 0 end.declined == o.next) _ (λ e. absurd (never_given_up end.declined o.next law.begins e));
      }

  stage_forgotten_for : (k : ℕ) → (end_in (map (forgotten_for o.next) o.ends) k).stage ≡ forgotten_stage (stage_at o k)
  stage_forgotten_for k = ap (λ (end : OutEnd). end.stage) (end_forgotten_for o.next o.ends k law.begins)

  forgets_all_keep : OutletLaw pending stopped (forgets_all o)
  forgets_all_keep = record {
    begins = law.begins;
    ids = law.ids;
    each = λ k l. rw (end_forgotten_for o.next o.ends k law.begins) (forgotten_for_each k (end_at o k) (law.each k (let near : k < length o.ends = omega (arith, l, length-map o.ends (forgotten_for o.next)) in near)));
    offer_there = λ k e. omega (arith, law.offer_there k e, length-map o.ends (forgotten_for o.next));
    offer_out = λ k e. ap is_spoken_for (stage_forgotten_for k) ∙ ap is_spoken_for (out_stays (stage_at o k) (law.offer_out k e)) ∙ law.offer_out k e;
    ready = λ k l e. law.ready k (let near : k < length o.ends = omega (arith, l, length-map o.ends (forgotten_for o.next)) in near)
        (spoke o law (stage_at o k) (sym (ap (speaks_of o.next) (stage_forgotten_for k)) ∙ e));
    in_order = λ j k before l e.
        let all = law.in_order j k before (let near : k < length o.ends = omega (arith, l, length-map o.ends (forgotten_for o.next)) in near)
        (spoke o law (stage_at o k) (sym (ap (speaks_of o.next) (stage_forgotten_for k)) ∙ e)) in
        ap (may_go_past (head_of o)) (end_forgotten_for o.next o.ends j law.begins)
        ∙ past_stays (rejects (end_at o j).rule.when (head_of o)) (end_at o j).rule.steady (is_cut (end_at o j)) (is_refused (stage_at o j))
        (is_refused (forgotten_stage (stage_at o j))) (forgotten_tells (stage_at o j)).refused all;
  }

  -- an end that is put off stands over a link that is not steady
  unsteady_at : (k : ℕ) → k < length o.ends → is_put_off (stage_at o k) ≡ true → (end_at o k).rule.steady ≡ false
  unsteady_at k here off = OnTrue_at off (law.each k here).put_off

  module _ (k header : ℕ) (here : k < length o.ends) where
    releases_keep : stage_at o k ≡ Reserved header → OutletLaw pending stopped (looks k (phase.Postponed header) o)
    releases_keep is = looks_keep o law k here (phase.Postponed header)
        (OnTrue_from (is_put_off _) _ (λ _. unsteady_at k here (ap is_put_off is)))

    asked_keep : stage_at o k ≡ Waiting header → OutletLaw pending stopped (looks k (phase.Asked header) o)
    asked_keep is = looks_keep o law k here (phase.Asked header)
        (OnTrue_from (is_put_off _) _ (λ _. unsteady_at k here (ap is_put_off is)))

    asked_now : stage_at o k ≡ Waiting header → stage_at (looks k (phase.Asked header) o) k ≡ AskedBy header
    asked_now is =
        ap (λ (end : OutEnd). end.stage) (get_or-set_same o.ends k
        (record (end_at o k) { declined = (end_at o k).declined; stage = source_looks (stage_at o k) (phase.Asked header) }) no_end here)
        ∙ ap (λ (stage : SourceStage). source_looks stage (phase.Asked header)) is

keeps_none : (k : ℕ) (stage : SourceStage) (offer : Option ℕ) → is_some offer ≡ false → is_some (offer_kept k stage offer) ≡ false
keeps_none k stage None e = refl
keeps_none k stage (Some j) e = cc

not_true : (b : Bool) → not b ≡ true → b ≡ false
not_true false e = refl
not_true true e = cc

reserves_keep : {pending : Bool} {stopped : Option Outcome} (o : OutletState) → OutletLaw pending stopped o → (k header : ℕ) → k < length o.ends
    → stage_at o k ≡ Waiting header → (b : Bool) → reserved header o ≡ b
    → OutletLaw pending stopped (cond b (holds k (looks k (phase.Asked header) o)) o)
reserves_keep o law k header here is false e = law
reserves_keep o law k header here is true e =
    let parts = and_parts (head_is header o) (not (is_some o.offer)) e in
    let same : header ≡ o.next = eqb-true header o.next (and_parts (header == o.next) (not (is_empty o.left)) parts.0).0 in
    let now = looks k (phase.Asked header) o in
    let asked = asked_now o law k header here is in
    let free = keeps_none k (source_looks (stage_at o k) (phase.Asked header)) o.offer (not_true (is_some o.offer) parts.1) in
    let may : may_hold k now ≡ true = rw (asked, free, same, number_same o.next) refl in
    holds_keep now (asked_keep o law k header here is) k (omega (arith, here, length-set o.ends k (record (end_at o k) { stage = source_looks (stage_at o k) (phase.Asked header) }))) may

pub link_calls_keep : LinkCallsKeepLaw
link_calls_keep = record {
  answer = λ stopped o law link header answer asked late.
      answers_keep o law (place_of link o.ends) header asked.known asked.unanswered asked.out answer late;
  forget = λ pending stopped o law. forgets_keep o law;
  reserve = λ pending stopped o law link header may. reserves_keep o law (place_of link o.ends) header may.known may.waits (reserved header o) refl;
  release = λ pending stopped o law link header kept.
      forgets_all_keep (looks (place_of link o.ends) (phase.Postponed header) o) (releases_keep o law (place_of link o.ends) header kept.known kept.kept);
}
