-- Each call of an outlet keeps its law.
use Rattle.std.proofs.Common.{◌≡◌, ◌≢◌, ℕ, ◌+◌, ◌-◌, ◌^◌, ◌<◌, ◌≤◌, ◌==◌, not, zero, suc, Bool, true, false, cond, List, [], ◌∷◌, length, set, map, Option, Some, None, is_some, unwrap_or, refl, sym, ◌∙◌, ap, subst, arith}
use Rattle.std.specs.Option.{ForSome}
use Rattle.std.proofs.lemmas.Bool.{OnTrue_at, OnTrue_from, and_parts}
use Rattle.std.proofs.lemmas.List.{get_or-set_same}
use Rattle.flow_value.specs.declared.value.Value.{Value}
use Rattle.flow_value.specs.declared.when.When.{When}
use Rattle.flow_link.specs.declared.phase.LinkEnd.{LinkEnd}
use Rattle.flow_link.specs.declared.phase.LinkEnd.TheVariants.{Plain}
use Rattle.flow_link.specs.declared.stage.SourceStage.{SourceStage}
use Rattle.flow_link.specs.declared.stage.SourceStage.TheVariants.{Free, Posted, Out, Waiting, Accepted, Wished, AskedBy, Reserved, Claimed, Crossing, Refused, Ended}
use Rattle.flow_link.specs.declared.trace.Outcome.{Outcome}
use Rattle.flow_link.specs.LinkOk.{IsWithin, HasRoom}
use Rattle.flow_link.proofs.ListTests.{never_both}
use Rattle.flow_outlet.specs.declared.ends.LinkRule.{LinkRule}
use Rattle.flow_outlet.specs.declared.ends.OutEnd.{OutEnd}
use Rattle.flow_outlet.specs.End.{id_of, speaks_of, is_spoken_for, is_free, is_waiting, is_cut, rejects, end_in, no_end, fresh_end, counted}
use Rattle.flow_outlet.specs.Outlet.{OutletState, head_of, first_of, rest_of, end_at, stage_at, end_of, offers, may_give, is_wanted, may_hold, is_asked, holds, gives, given_end, is_wish, denies, withdraws, ends_link, changes, fresh_outlet}
use Rattle.flow_outlet.specs.Law.{EndLaw, OutletLaw, is_put_off, is_refused, admits_head, may_go_past}
use Rattle.flow_outlet.proofs.OneEndChanges.{each_set, one_changes}
use Rattle.flow_outlet.proofs.StagesTell.{Waits, free_is, number_below, number_same, past_stays, speaks_id, waits_for, wish_home}
use Rattle.flow_outlet.proofs.OffersKeepLaw.{settles_keep}

-- Each call keeps the law
-- What is given

not_some : (offer : Option ℕ) → not (is_some offer) ≡ true → offer ≡ None
not_some None e = refl
not_some (Some k) e = cc

-- what is wanted is the head, and no other offer is out
record Wanted (next k : ℕ) (offer : Option ℕ) (stage : SourceStage) : Type 0 where
  speaks : speaks_of next stage ≡ true
  alone : (j : ℕ) → j ≢ k → offer ≡ Some j → ⊥

wanted_alone : (next k : ℕ) (offer : Option ℕ) (stage : SourceStage) → is_wanted next (is_some offer) stage ≡ true
    → (is_spoken_for stage ≡ true → offer ≡ Some k) → Wanted next k offer stage
wanted_alone next k offer (Accepted i) e mine = record {
  speaks = e;
  alone = λ j other is. other (let same : Some j ≡ Some k = sym is ∙ mine refl in cc);
}
wanted_alone next k offer (Wished i) e mine =
    let all = and_parts (i == next) (not (is_some offer)) e in
    record { speaks = all.0; alone = λ j other is. let none : None ≡ Some j = sym (not_some offer all.1) ∙ is in cc }
wanted_alone next k offer (Claimed i) e mine = record {
  speaks = e;
  alone = λ j other is. other (let same : Some j ≡ Some k = sym is ∙ mine refl in cc);
}
wanted_alone next k offer Free e mine = cc
wanted_alone next k offer (Posted _) e mine = cc
wanted_alone next k offer (Out _) e mine = cc
wanted_alone next k offer (Waiting _) e mine = cc
wanted_alone next k offer (AskedBy _) e mine = cc
wanted_alone next k offer (Reserved _) e mine = cc
wanted_alone next k offer Crossing e mine = cc
wanted_alone next k offer Refused e mine = cc
wanted_alone next k offer (Ended _) e mine = cc

one_more : (max : Option ℕ) (given : ℕ) → HasRoom max given → IsWithin max (counted max given)
one_more None given room = tt
one_more (Some max) given room = omega (arith, room)

rest_fits : (left : List Value) (next spare : ℕ) (when : When) → admits_head when (first_of left) ≡ true
    → next + length left + spare ≤ 2 ^ 59 → next + 1 + length (rest_of left) + spare ≤ 2 ^ 59
rest_fits [] next spare when e fit = cc
rest_fits (value ∷ left) next spare when e fit = omega (arith, fit)

-- nobody speaks of a later message yet
later_silent : (next : ℕ) (stage : SourceStage) → ForSome (id_of stage) (λ i. i ≤ next) → speaks_of (next + 1) stage ≡ true → ⊥
later_silent next stage low e = let bad : next + 1 ≤ next = low (next + 1) (speaks_id (next + 1) stage e) in omega arith

module _ {pending : Bool} {stopped : Option Outcome} (o : OutletState) (law : OutletLaw pending stopped o) (k : ℕ) (here : k < length o.ends) (may : may_give k o ≡ true) where
  is_wanted_here : Wanted o.next k o.offer (stage_at o k)
  is_wanted_here = wanted_alone o.next k o.offer (stage_at o k) may (λ out. OnTrue_at out (law.each k here).out)

  pub given_admitted : admits_head (end_at o k).rule.when (head_of o) ≡ true
  given_admitted = OnTrue_at is_wanted_here.speaks (law.each k here).admitted

  pub given_in_order : (j : ℕ) → j < k → may_go_past (head_of o) (end_at o j) ≡ true
  given_in_order j l = law.in_order j k l here is_wanted_here.speaks

  -- the other ends wait for the next message
  given_elsewhere : (j : ℕ) (end : OutEnd) → j ≢ k → EndLaw o.next (head_of o) o.offer pending stopped j end
      → EndLaw (o.next + 1) (first_of (rest_of o.left)) None pending stopped j end
  given_elsewhere j end other old = record {
    risen = omega (arith, old.risen);
    none_later = λ i e. let low : i ≤ o.next = old.none_later i e in omega arith;
    declined_before = omega (arith, old.declined_before);
    out = OnTrue_from (is_spoken_for end.stage) _ (λ e. absurd (is_wanted_here.alone j other (OnTrue_at e old.out)));
    out_head = OnTrue_from (is_spoken_for end.stage) _ (λ e. absurd (is_wanted_here.alone j other (OnTrue_at e old.out)));
    offers = old.offers;
    admitted = OnTrue_from (speaks_of (o.next + 1) end.stage) _ (λ e. absurd (later_silent o.next end.stage old.none_later e));
    put_off = old.put_off;
    within = old.within;
    room = old.room;
    ended = old.ended;
    given_up = OnTrue_from (end.declined == o.next + 1) _ (λ e. never_both (end.declined == o.next + 1) e (number_below end.declined (o.next + 1) (let low : end.declined < o.next + 1 = omega (arith, old.declined_before) in low)));
    given_up_late = OnTrue_from (end.declined == o.next + 1) _ (λ e. never_both (end.declined == o.next + 1) e (number_below end.declined (o.next + 1) (let low : end.declined < o.next + 1 = omega (arith, old.declined_before) in low)));
  }

  given_here : HasRoom (end_at o k).rule.max (end_at o k).given
      → EndLaw (o.next + 1) (first_of (rest_of o.left)) None pending stopped k (given_end o.next (end_at o k))
  given_here room =
      let old = law.each k here in
      let end = end_at o k in
      record {
        risen = omega arith;
        none_later = λ i e. cc;
        declined_before = omega (arith, old.declined_before);
        out = tt;
        out_head = tt;
        offers = refl;
        admitted = tt;
        put_off = tt;
        within = one_more end.rule.max end.given room;
        room = λ i e. absurd (let never : ⊥ = cc in never);
        ended = λ how e. cc;
        given_up = OnTrue_from (end.declined == o.next + 1) _ (λ e. never_both (end.declined == o.next + 1) e (number_below end.declined (o.next + 1) (let low : end.declined < o.next + 1 = omega (arith, old.declined_before) in low)));
        given_up_late = OnTrue_from (end.declined == o.next + 1) _ (λ e. never_both (end.declined == o.next + 1) e (number_below end.declined (o.next + 1) (let low : end.declined < o.next + 1 = omega (arith, old.declined_before) in low)));
      }

  later_none : (j : ℕ) → j < length (set o.ends k (given_end o.next (end_at o k)))
      → speaks_of (o.next + 1) (end_in (set o.ends k (given_end o.next (end_at o k))) j).stage ≡ true → ⊥
  later_none = each_set (λ j e. speaks_of (o.next + 1) e.stage ≡ true → ⊥) o.ends k (given_end o.next (end_at o k)) here
      (λ e. let never : ⊥ = cc in never) (λ j l other e. later_silent o.next (stage_at o j) (law.each j l).none_later e)

  pub gives_keep : HasRoom (end_at o k).rule.max (end_at o k).given → OutletLaw pending stopped (gives k o)
  gives_keep room = record {
    begins = omega (arith, law.begins);
    ids = rest_fits o.left o.next o.spare (end_at o k).rule.when given_admitted law.ids;
    each = each_set (λ j e. EndLaw (o.next + 1) (first_of (rest_of o.left)) None pending stopped j e) o.ends k
        (given_end o.next (end_at o k)) here (given_here room) (λ j l other. given_elsewhere j (end_at o j) other (law.each j l));
    offer_there = λ j e. cc;
    offer_out = λ j e. cc;
    ready = λ j l e. absurd (later_none j l e);
    in_order = λ j i before l e. absurd (later_none i l e);
  }

-- What is kept

asked_for : (next : ℕ) (stage : SourceStage) → is_asked next stage ≡ true
    → (speaks_of next stage ≡ true) × (is_put_off stage ≡ true) × (is_refused stage ≡ false)
asked_for next (AskedBy i) e = (e, refl, refl)
asked_for next Free e = cc
asked_for next (Posted _) e = cc
asked_for next (Out _) e = cc
asked_for next (Waiting _) e = cc
asked_for next (Accepted _) e = cc
asked_for next (Wished _) e = cc
asked_for next (Reserved _) e = cc
asked_for next (Claimed _) e = cc
asked_for next Crossing e = cc
asked_for next Refused e = cc
asked_for next (Ended _) e = cc

pub holds_keep : {pending : Bool} {stopped : Option Outcome} (o : OutletState) → OutletLaw pending stopped o → (k : ℕ) → k < length o.ends
    → may_hold k o ≡ true → OutletLaw pending stopped (holds k o)
holds_keep o law k here may =
    let old = law.each k here in
    let end = end_at o k in
    let parts = and_parts (is_asked o.next (stage_at o k)) (not (is_some o.offer)) may in
    let tells = asked_for o.next (stage_at o k) parts.0 in
    let none : o.offer ≡ None = not_some o.offer parts.1 in
    one_changes o law k here (record end { stage = Reserved o.next }) (Some k)
    (record {
      risen = old.risen;
      none_later = λ i e. let same : o.next ≡ i = cc in omega arith;
      declined_before = old.declined_before;
      out = refl;
      out_head = number_same o.next;
      offers = refl;
      admitted = OnTrue_from (o.next == o.next) _ (λ _. OnTrue_at tells.0 old.admitted);
      put_off = OnTrue_at tells.1 old.put_off;
      within = old.within;
      room = λ i e. old.room o.next (speaks_id o.next (stage_at o k) tells.0);
      ended = λ how e. cc;
      given_up = old.given_up;
      given_up_late = old.given_up_late;
    })
    (λ j l other out. let mine : o.offer ≡ Some j = OnTrue_at out (law.each j l).out in let no : None ≡ Some j = sym none ∙ mine in cc)
    (λ j e. let same : k ≡ j = cc in subst (λ (n : ℕ). n < length o.ends) same here)
    (λ j e. let same : j ≡ k = cc in rw (same, get_or-set_same o.ends k (record end { stage = Reserved o.next }) no_end here) refl)
    (λ _. law.ready k here tells.0)
    (λ j l _. law.in_order j k l here tells.0)
    (past_stays (rejects end.rule.when (head_of o)) end.rule.steady (is_cut end) (is_refused (stage_at o k)) false
    (λ e. never_both (is_refused (stage_at o k)) e tells.2))

-- What is taken back, and what ends

module _ {pending : Bool} {stopped : Option Outcome} (o : OutletState) (law : OutletLaw pending stopped o) (k : ℕ) (here : k < length o.ends) where
  pub denies_keep : is_wish (stage_at o k) ≡ true → OutletLaw pending stopped (denies k o)
  denies_keep wish =
      let old = law.each k here in
      let home = wish_home (stage_at o k) wish in
      settles_keep o law k here Free (end_at o k).declined refl refl refl refl home.0 (λ how e. cc)
      (λ e. never_both (is_refused (stage_at o k)) e home.1) old.declined_before
      (λ e. (OnTrue_at e old.given_up, OnTrue_at e old.given_up_late))

  pub withdraws_keep : is_waiting (stage_at o k) ≡ true
      → (o.renewing ≡ false → speaks_of o.next (stage_at o k) ≡ true → pending ≡ true)
      → OutletLaw pending stopped (withdraws k o)
  withdraws_keep wait up =
      let old = law.each k here in
      let waits = waits_for (stage_at o k) wait in
      let low : waits.id ≤ o.next = old.none_later waits.id (ap id_of waits.is) in
      let steady : (end_at o k).rule.steady ≡ false = OnTrue_at (ap is_put_off waits.is) old.put_off in
      withdrawn old waits steady low o.renewing refl
    where
      freed : (old : EndLaw o.next (head_of o) o.offer pending stopped k (end_at o k)) (waits : Waits (stage_at o k)) (declined : ℕ)
          → declined ≤ o.next → ((declined == o.next) ≡ true → (pending ≡ true) × ((end_at o k).rule.steady ≡ false))
          → OutletLaw pending stopped (changes k Free declined o)
      freed old waits declined low up =
          settles_keep o law k here Free declined refl refl refl refl (ap is_spoken_for waits.is) (λ how e. cc)
          (λ e. let no : is_refused (Waiting waits.id) ≡ true = sym (ap is_refused waits.is) ∙ e in cc) low up

      withdrawn : (old : EndLaw o.next (head_of o) o.offer pending stopped k (end_at o k)) (waits : Waits (stage_at o k))
          → (end_at o k).rule.steady ≡ false → waits.id ≤ o.next → (renewing : Bool) → o.renewing ≡ renewing
          → OutletLaw pending stopped (changes k Free (cond renewing (end_at o k).declined (unwrap_or (id_of (stage_at o k)) 0)) o)
      withdrawn old waits steady low true e =
          freed old waits (end_at o k).declined old.declined_before (λ up. (OnTrue_at up old.given_up, OnTrue_at up old.given_up_late))
      withdrawn old waits steady low false e =
          let same : unwrap_or (id_of (stage_at o k)) 0 ≡ waits.id = ap (λ (stage : SourceStage). unwrap_or (id_of stage) 0) waits.is in
          rw same (freed old waits waits.id low (λ speaks. (up e (ap (speaks_of o.next) waits.is ∙ speaks), steady)))

  pub ends_keep : (how : LinkEnd) → is_free (stage_at o k) ≡ true → end_of (end_at o k) stopped ≡ Some how
      → OutletLaw pending stopped (ends_link k how o)
  ends_keep how free e =
      let old = law.each k here in
      let is : stage_at o k ≡ Free = free_is (stage_at o k) free in
      settles_keep o law k here (Ended how) (end_at o k).declined refl refl refl refl (ap is_spoken_for is)
      (λ other same. let equal : how ≡ other = cc in e ∙ ap Some equal)
      (λ r. let no : is_refused Free ≡ true = sym (ap is_refused is) ∙ r in cc) old.declined_before
      (λ up. (OnTrue_at up old.given_up, OnTrue_at up old.given_up_late))

-- The block comes to fault, and stops

fault_each : {next : ℕ} {head : Option Value} {offer : Option ℕ} {stopped : Option Outcome} {k : ℕ} {end : OutEnd}
    → EndLaw next head offer false stopped k end → EndLaw next head offer true stopped k end
fault_each {next} {end = end} law = record {
  risen = law.risen;
  none_later = law.none_later;
  declined_before = law.declined_before;
  out = law.out;
  out_head = law.out_head;
  offers = law.offers;
  admitted = law.admitted;
  put_off = law.put_off;
  within = law.within;
  room = law.room;
  ended = law.ended;
  given_up = OnTrue_from (end.declined == next) _ (λ _. refl);
  given_up_late = law.given_up_late;
}

stopped_as : (cut : Bool) (by : Option LinkEnd) (how : LinkEnd) → cond cut (Some Plain) None ≡ Some how
    → cond cut (Some Plain) by ≡ Some how
stopped_as true by how e = e
stopped_as false by how e = cc

stop_each : {next : ℕ} {head : Option Value} {offer : Option ℕ} {pending : Bool} {k : ℕ} {end : OutEnd} (outcome : Outcome)
    → EndLaw next head offer pending None k end → EndLaw next head offer pending (Some outcome) k end
stop_each {end = end} outcome law = record {
  risen = law.risen;
  none_later = law.none_later;
  declined_before = law.declined_before;
  out = law.out;
  out_head = law.out_head;
  offers = law.offers;
  admitted = law.admitted;
  put_off = law.put_off;
  within = law.within;
  room = law.room;
  ended = λ how e. stopped_as (is_cut end) _ how (law.ended how e);
  given_up = law.given_up;
  given_up_late = law.given_up_late;
}

pub fault_keeps : (stopped : Option Outcome) (o : OutletState) → OutletLaw false stopped o → OutletLaw true stopped o
fault_keeps stopped o law = record {
  begins = law.begins;
  ids = law.ids;
  each = λ k l. fault_each (law.each k l);
  offer_there = law.offer_there;
  offer_out = law.offer_out;
  ready = law.ready;
  in_order = law.in_order;
}

pub stop_keeps : (pending : Bool) (outcome : Outcome) (o : OutletState) → OutletLaw pending None o
    → OutletLaw pending (Some outcome) o
stop_keeps pending outcome o law = record {
  begins = law.begins;
  ids = law.ids;
  each = λ k l. stop_each outcome (law.each k l);
  offer_there = law.offer_there;
  offer_out = law.offer_out;
  ready = law.ready;
  in_order = law.in_order;
}

-- A new outlet

within_none : (max : Option ℕ) → IsWithin max 0
within_none None = tt
within_none (Some max) = omega arith

fresh_each : (rule : LinkRule) (first k : ℕ) (pending : Bool) (stopped : Option Outcome) → 1 ≤ first
    → EndLaw first None None pending stopped k (fresh_end rule)
fresh_each rule first k pending stopped low = record {
  risen = omega arith;
  none_later = λ i e. cc;
  declined_before = omega arith;
  out = tt;
  out_head = tt;
  offers = refl;
  admitted = tt;
  put_off = tt;
  within = within_none rule.max;
  room = λ i e. absurd (let never : ⊥ = cc in never);
  ended = λ how e. cc;
  given_up = OnTrue_from (0 == first) _ (λ e. never_both (0 == first) e (number_below 0 first low));
  given_up_late = OnTrue_from (0 == first) _ (λ e. never_both (0 == first) e (number_below 0 first low));
}

each_fresh : (rules : List LinkRule) (P : OutEnd → Type 0) → ((rule : LinkRule) → P (fresh_end rule))
    → (k : ℕ) → k < length (map fresh_end rules) → P (end_in (map fresh_end rules) k)
each_fresh [] P f k l = absurd (omega arith)
each_fresh (rule ∷ rules) P f zero l = f rule
each_fresh (rule ∷ rules) P f (suc k) l = each_fresh rules P f k (omega arith)

fresh_silent : (rules : List LinkRule) (first k : ℕ) → k < length (map fresh_end rules)
    → speaks_of first (end_in (map fresh_end rules) k).stage ≡ true → ⊥
fresh_silent rules first k l e =
    each_fresh rules (λ (end : OutEnd). speaks_of first end.stage ≡ true → ⊥) (λ rule no. let never : ⊥ = cc in never) k l e

pub fresh_keeps : (pending : Bool) (stopped : Option Outcome) (rules : List LinkRule) (first : ℕ) → 1 ≤ first → first ≤ 2 ^ 59
    → OutletLaw pending stopped (fresh_outlet rules first)
fresh_keeps pending stopped rules first low high = record {
  begins = low;
  ids = omega arith;
  each = λ k l. each_fresh rules (λ (end : OutEnd). EndLaw first None None pending stopped k end)
      (λ rule. fresh_each rule first k pending stopped low) k l;
  offer_there = λ k e. cc;
  offer_out = λ k e. cc;
  ready = λ k l e. absurd (fresh_silent rules first k l e);
  in_order = λ j k before l e. absurd (fresh_silent rules first k l e);
}
