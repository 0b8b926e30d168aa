-- How a block's stages at the links out of it change by the calls of its exits that name a link.
use Rattle.std.proofs.Common.{◌≡◌, ◌≢◌, ℕ, ◌<◌, ◌==◌, ltb, Bool, true, false, not, ◌&&◌, ◌||◌, inr, cond, zero, suc, List, [], ◌∷◌, length, set, map, position, Option, Some, None, is_some, unwrap_or, refl, ap, ap₂, sym, ◌∙◌, subst, arith, eqb-true, eq-eqb}
use Rattle.std.proofs.lemmas.Bool.{and_parts, or_parts, false_from_ne_true, lt-ltb, ltb-true}
use Rattle.std.proofs.lemmas.List.{length-set, length-map, get_or-set_same, get_or-set_other}
use Rattle.std.proofs.lemmas.List.Quantifiers.{position-Some}
use Rattle.flow_value.specs.declared.value.Value.{Value}
use Rattle.flow_value.specs.declared.message.MessageStatus.{MessageStatus}
use Rattle.flow_value.specs.declared.message.MessageStatus.TheVariants as status
use Rattle.flow_link.specs.declared.phase.Phase.TheVariants.{Idle, Wanted}
use Rattle.flow_link.specs.declared.stage.SourceStage.{SourceStage}
use Rattle.flow_link.specs.declared.stage.SourceStage.TheVariants as source
use Rattle.flow_link.specs.SourceCalls.{GoesOut, stage_answered, MayConsume, StaysOrForgets, GivesOver}
use Rattle.flow_link.specs.Stage.{source_looks}
use Rattle.flow_link.specs.StagesMove.{MovesBy, MovesTo}
use Rattle.flow_outlet.specs.End.{end_in, no_end, is_free, place_in}
use Rattle.flow_outlet.specs.Outlet.{OutletState, end_at, stage_at, is_at, is_empty, first_of, head_of, is_held_back, is_renewing, may_offer, prepares, offers, looks, gives, given_end}
use Rattle.flow_outlet.specs.ByLink.{place_of, answer_stage, answer_declined, answer_offer, answered, has_room, is_head, is_kept_elsewhere, is_there, is_taken, tests_take, tests_consume, consumed, consumes, forgotten, forgotten_stage, gives_home}
use Rattle.flow_outlet.specs.declared.ends.OutEnd.{OutEnd}
use Rattle.flow_outlet.proofs.TestsTell.{at_is}
use Rattle.flow_block.specs.Traits.{is_ready, source_shown, end_shown, place_shown, source_over, is_busy, carries}
use Rattle.flow_link.proofs.PlacesNamed.{place_set, place_map}

-- The end of a link

own_link : (link : ℕ) (ends : List OutEnd) (place : Option ℕ) → position (λ (end : OutEnd). end.rule.id == link) ends ≡ place
    → unwrap_or place (length ends) < length ends → (end_in ends (unwrap_or place (length ends))).rule.id ≡ link
own_link link ends (Some k) at l =
    eqb-true (end_in ends k).rule.id link (position-Some (λ (end : OutEnd). end.rule.id == link) ends k no_end at).1
own_link link ends None at l = absurd (omega arith)

pub own : (o : OutletState) (link : ℕ) → place_of link o.ends < length o.ends → (end_at o (place_of link o.ends)).rule.id ≡ link
own o link l = own_link link o.ends (position (λ (end : OutEnd). end.rule.id == link) o.ends) refl l

pub shown_known : (o : OutletState) (k : ℕ) → k < length o.ends → place_shown k o ≡ end_shown k (end_at o k) o
shown_known o k l = ap (λ (there : Bool). cond there (end_shown k (end_at o k) o) source.Refused) (lt-ltb k (length o.ends) l)

-- an end over which no offer is out
pub shown_dark : (o : OutletState) (k : ℕ) (end : OutEnd) → is_at o.offer k ≡ false → end_shown k end o ≡ source_shown false o.next end.stage
shown_dark o k end dark =
    ap (λ (at : Bool). source_shown (at && not (is_empty o.left) && is_some o.parcel && has_room end.rule.max end.given) o.next end.stage) dark

-- all ends but one become so, and each end has its link
pub record Apart (change : OutEnd → OutEnd) (k : ℕ) (old new : OutletState) : Type 0 where
  pub count : length new.ends ≡ length old.ends
  pub places : (link : ℕ) → place_of link new.ends ≡ place_of link old.ends
  pub others : (j : ℕ) → j ≢ k → end_at new j ≡ change (end_at old j)

abbrev pub Alone : ℕ → OutletState → OutletState → Type 0
Alone = Apart (λ end. end)

pub alone_set : (k : ℕ) (old new : OutletState) (end : OutEnd) → new.ends ≡ set old.ends k end → end.rule.id ≡ (end_at old k).rule.id → Alone k old new
alone_set k old new end ends_are same = record {
  count = ap length ends_are ∙ length-set old.ends k end;
  places = λ link.
      ap (place_of link) ends_are
      ∙ ap₂ unwrap_or (place_set (λ (e : OutEnd). e.rule.id == link) old.ends k end no_end (ap (λ (id : ℕ). id == link) same)) (length-set old.ends k end);
  others = λ j apart. ap (λ ends. end_in ends j) ends_are ∙ get_or-set_other old.ends k j end no_end apart;
}

pub set_here : (k : ℕ) (old new : OutletState) (end : OutEnd) → new.ends ≡ set old.ends k end → k < length old.ends → end_at new k ≡ end
set_here k old new end ends_are l = ap (λ ends. end_in ends k) ends_are ∙ get_or-set_same old.ends k end no_end l

pub alone_both : (k : ℕ) (a b c : OutletState) → Alone k a b → Alone k b c → Alone k a c
alone_both k a b c first second = record {
  count = second.count ∙ first.count;
  places = λ link. second.places link ∙ first.places link;
  others = λ j apart. second.others j apart ∙ first.others j apart;
}

-- every end changes so
pub end_mapped : (change : OutEnd → OutEnd) → change no_end ≡ no_end → (ends : List OutEnd) (k : ℕ)
    → end_in (map change ends) k ≡ change (end_in ends k)
end_mapped change none [] k = sym none
end_mapped change none (end ∷ ends) zero = refl
end_mapped change none (end ∷ ends) (suc k) = end_mapped change none ends k

pub apart_mapped : (change : OutEnd → OutEnd) → change no_end ≡ no_end → ((end : OutEnd) → (change end).rule.id ≡ end.rule.id)
    → (k : ℕ) (a b c : OutletState) → Alone k a b → c.ends ≡ map change b.ends → Apart change k a c
apart_mapped change none same k a b c alone ends_are = record {
  count = ap length ends_are ∙ length-map b.ends change ∙ alone.count;
  places = λ link.
      ap (place_of link) ends_are
      ∙ ap₂ unwrap_or (place_map (λ (e : OutEnd). e.rule.id == link) change (λ end. ap (λ (id : ℕ). id == link) (same end)) b.ends)
      (length-map b.ends change)
      ∙ alone.places link;
  others = λ j apart. ap (λ ends. end_in ends j) ends_are ∙ end_mapped change none b.ends j ∙ ap change (alone.others j apart);
}

-- at the links
module _ (change : OutEnd → OutEnd) (old new : OutletState) (link : ℕ) (known : place_of link old.ends < length old.ends) (apart : Apart change (place_of link old.ends) old new) where
  abbrev pub here : ℕ
  here = place_of link old.ends

  differ : (other : ℕ) → other ≢ link → place_of other old.ends < length old.ends → place_of other old.ends ≢ here
  differ other unlike l one =
      unlike (sym (own old other l) ∙ ap (λ (j : ℕ). (end_at old j).rule.id) one ∙ own old link known)

  pub there : (stage : SourceStage) → end_shown here (end_at new here) new ≡ stage → source_over new link ≡ stage
  there stage is =
      ap (λ (k : ℕ). place_shown k new) (apart.places link)
      ∙ shown_known new here (let l : here < length new.ends = omega (arith, known, apart.count) in l) ∙ is

  -- what is so of each other end is so of each other link
  pub elsewhere : (Stays : SourceStage → SourceStage → Type 0) → Stays source.Refused source.Refused
      → ((j : ℕ) → j ≢ here → Stays (end_shown j (end_at old j) old) (end_shown j (change (end_at old j)) new))
      → (other : ℕ) → other ≢ link → Stays (source_over old other) (source_over new other)
  elsewhere Stays unknown each other unlike =
      subst (λ (s : SourceStage). Stays (source_over old other) s) (ap (λ (k : ℕ). place_shown k new) (sym (apart.places other)))
      (at (place_of other old.ends) (λ l. differ other unlike l) (ltb (place_of other old.ends) (length old.ends)) refl)
    where
      at : (j : ℕ) → (j < length old.ends → j ≢ here) → (b : Bool) → ltb j (length old.ends) ≡ b → Stays (place_shown j old) (place_shown j new)
      at j far true is =
          let l : j < length old.ends = ltb-true j (length old.ends) is in
          let near : j < length new.ends = omega (arith, l, apart.count) in
          let after : place_shown j new ≡ end_shown j (change (end_at old j)) new =
          shown_known new j near ∙ ap (λ (end : OutEnd). end_shown j end new) (apart.others j (far l)) in
          subst (λ (s : SourceStage). Stays (place_shown j old) s) (sym after)
          (subst (λ (s : SourceStage). Stays s (end_shown j (change (end_at old j)) new)) (sym (shown_known old j l)) (each j (far l)))
      at j far false is =
          let before : place_shown j old ≡ source.Refused = ap (λ (b : Bool). cond b (end_shown j (end_at old j) old) source.Refused) is in
          let after : place_shown j new ≡ source.Refused =
          ap (λ (n : ℕ). cond (ltb j n) (end_shown j (end_at new j) new) source.Refused) apart.count
          ∙ ap (λ (b : Bool). cond b (end_shown j (end_at new j) new) source.Refused) is in
          subst (λ (s : SourceStage). Stays (place_shown j old) s) (sym after)
          (subst (λ (s : SourceStage). Stays s source.Refused) (sym before) unknown)

-- no offer is out over another end, before and after
pub stays : (old new : OutletState) (link : ℕ) → place_of link old.ends < length old.ends → Alone (place_of link old.ends) old new → new.next ≡ old.next
    → ((j : ℕ) → j ≢ place_of link old.ends → is_at old.offer j ≡ false) → ((j : ℕ) → j ≢ place_of link old.ends → is_at new.offer j ≡ false)
    → (other : ℕ) → other ≢ link → source_over new other ≡ source_over old other
stays old new link known alone next before after =
    elsewhere (λ end. end) old new link known alone (λ was is. is ≡ was) refl (λ j far.
    shown_dark new j (end_at old j) (after j far)
    ∙ ap (λ (n : ℕ). source_shown false n (end_at old j).stage) next
    ∙ sym (shown_dark old j (end_at old j) (before j far)))

pub out_only : (k j : ℕ) → j ≢ k → is_at (Some k) j ≡ false
out_only k j far = false_from_ne_true (k == j) (λ e. far (sym (eqb-true k j e)))

-- The answer to an offer

pub all_four : (a b c d : Bool) → a ≡ true → b ≡ true → c ≡ true → d ≡ true → (a && b && c && d) ≡ true
all_four a b c d p q r t = rw (p, q, r, t) refl

pub first_of_four : (a b c d : Bool) → (a && b && c && d) ≡ true → a ≡ true
first_of_four true b c d e = refl
first_of_four false b c d e = cc

first_of_three : (a b c : Bool) → (a && b && c) ≡ true → a ≡ true
first_of_three true b c e = refl
first_of_three false b c e = cc

-- an offer is out over the end, and what it needs is there
pub record IsOut (ready : Bool) (next header : ℕ) (stage is : SourceStage) : Type 0 where
  pub stage_is : stage ≡ is
  pub ready_is : ready ≡ true
  pub head : (header == next) ≡ true

out_where : (ready head : Bool) (next i header : ℕ) → head ≡ (i == next) → cond (ready && head) (source.Out i) source.Crossing ≡ source.Out header
    → IsOut ready next header (source.Out i) (source.Out header)
out_where true true next i header at e =
    let same : i ≡ header = cc in record { stage_is = e; ready_is = refl; head = subst (λ (n : ℕ). (n == next) ≡ true) same (sym at) }
out_where true false next i header at e = absurd (cc)
out_where false head next i header at e = absurd (cc)

never_by : (head : Bool) (i header : ℕ) → cond head (source.Waiting i) source.Free ≡ source.Out header → ⊥
never_by true i header e = cc
never_by false i header e = cc

never_taken : (both : Bool) (i header : ℕ) → cond both (source.Accepted i) source.Crossing ≡ source.Out header → ⊥
never_taken true i header e = cc
never_taken false i header e = cc

never_kept : (both : Bool) (i header : ℕ) → cond both (source.Reserved i) source.Crossing ≡ source.Out header → ⊥
never_kept true i header e = cc
never_kept false i header e = cc

pub shown_out : (ready : Bool) (next header : ℕ) (stage : SourceStage) → source_shown ready next stage ≡ source.Out header
    → IsOut ready next header stage (source.Out header)
shown_out ready next header (source.Out i) e = out_where ready (i == next) next i header refl e
shown_out ready next header (source.Waiting i) e = absurd (never_by (i == next) i header e)
shown_out ready next header (source.Accepted i) e = absurd (never_taken (ready && i == next) i header e)
shown_out ready next header source.Free e = absurd (cc)
shown_out ready next header (source.Posted _) e = absurd (cc)
shown_out ready next header (source.Wished _) e = absurd (cc)
shown_out ready next header (source.AskedBy _) e = absurd (cc)
shown_out ready next header (source.Reserved i) e = absurd (never_kept (ready && i == next) i header e)
shown_out ready next header (source.Claimed _) e = absurd (cc)
shown_out ready next header source.Crossing e = absurd (cc)
shown_out ready next header source.Refused e = absurd (cc)
shown_out ready next header (source.Ended _) e = absurd (cc)

pub known_where : (o : OutletState) (k : ℕ) (stage : SourceStage) → place_shown k o ≡ stage → (source.Refused ≡ stage → ⊥) → k < length o.ends
known_where o k stage e some = at (ltb k (length o.ends)) refl
  where
    at : (b : Bool) → ltb k (length o.ends) ≡ b → k < length o.ends
    at true is = ltb-true k (length o.ends) is
    at false is = absurd (some (sym (ap (λ (b : Bool). cond b (end_shown k (end_at o k) o) source.Refused) is) ∙ e))

module _ (o : OutletState) (link header : ℕ) (asked : source_over o link ≡ source.Out header) where
  abbrev asked_at : ℕ
  asked_at = place_of link o.ends

  asked_known : asked_at < length o.ends
  asked_known = known_where o asked_at (source.Out header) asked (λ e. cc)

  is_out : IsOut (is_ready asked_at (end_at o asked_at) o) o.next header (stage_at o asked_at) (source.Out header)
  is_out = shown_out (is_ready asked_at (end_at o asked_at) o) o.next header (stage_at o asked_at) (sym (shown_known o asked_at asked_known) ∙ asked)

  offer_is : o.offer ≡ Some asked_at
  offer_is = at_is o.offer asked_at
      (first_of_four (is_at o.offer asked_at) (not (is_empty o.left)) (is_some o.parcel) (has_room (end_at o asked_at).rule.max (end_at o asked_at).given) is_out.ready_is)

  abbrev answered_end : MessageStatus → OutEnd
  answered_end status = record (end_at o asked_at) { declined = answer_declined status header (end_at o asked_at).declined; stage = answer_stage status header }

  shown_answered : (status : MessageStatus) → end_shown asked_at (answered_end status) (answered status header asked_at o) ≡ stage_answered status header
  shown_answered status.Accepted = ap₂ (λ (r b : Bool). cond (r && b) (source.Accepted header) source.Crossing) is_out.ready_is is_out.head
  shown_answered status.Postponed = ap (λ (b : Bool). cond b (source.Waiting header) source.Free) is_out.head
  shown_answered status.Declined = refl
  shown_answered status.NotAvailable = refl
  shown_answered status.DecliningPermanently = refl

  dark_before : (j : ℕ) → j ≢ asked_at → is_at o.offer j ≡ false
  dark_before j far = ap (λ (offer : Option ℕ). is_at offer j) offer_is ∙ out_only asked_at j far

  dark_after : (status : MessageStatus) (j : ℕ) → j ≢ asked_at → is_at (answer_offer status o.offer) j ≡ false
  dark_after status.Accepted j far = dark_before j far
  dark_after status.Postponed j far = refl
  dark_after status.Declined j far = refl
  dark_after status.NotAvailable j far = refl
  dark_after status.DecliningPermanently j far = refl

  pub answer_moves : (status : MessageStatus)
      → MovesTo (stage_answered status header) link (source_over o) (source_over (answered status header asked_at o))
  answer_moves status =
      let new = answered status header asked_at o in
      let alone : Alone asked_at o new = alone_set asked_at o new (answered_end status) refl refl in
      record {
        here = there (λ end. end) o new link asked_known alone (stage_answered status header)
            (ap (λ (end : OutEnd). end_shown asked_at end new) (set_here asked_at o new (answered_end status) refl asked_known) ∙ shown_answered status);
        elsewhere = stays o new link asked_known alone refl dark_before (dark_after status);
      }

-- The next offer

pub carries_is : (ends : List OutEnd) (k : ℕ) (end : OutEnd) → end ≡ end_in ends k → (at room : Bool) → at ≡ (place_of end.rule.id ends == k)
    → room ≡ has_room end.rule.max end.given → (at && room) ≡ carries k ends
carries_is ends k end read at room at_is room_is =
    ap₂ (λ (a r : Bool). a && r) at_is room_is ∙ ap (λ (e : OutEnd). place_of e.rule.id ends == k && has_room e.rule.max e.given) read

-- what is known where the head may be offered over an end: it is not held back
pub record MayOffer (empty back there free : Bool) (place k : ℕ) : Type 0 where
  pub some : empty ≡ false
  pub none_out : back ≡ false
  pub known : there ≡ true
  pub is_free : free ≡ true
  pub place_is : place ≡ k

pub may_where : (empty back there free : Bool) (place k : ℕ) → cond (empty || back || not there || not free) None (Some place) ≡ Some k
    → MayOffer empty back there free place k
may_where true back there free place k e = absurd (cc)
may_where false true there free place k e = absurd (cc)
may_where false false false free place k e = absurd (cc)
may_where false false true false place k e = absurd (cc)
may_where false false true true place k e = record { some = refl; none_out = refl; known = refl; is_free = refl; place_is = cc }

pub free_stage : (stage : SourceStage) → is_free stage ≡ true → stage ≡ source.Free
free_stage source.Free e = refl
free_stage stage e = absurd (cc)

pub none_dark : (offer : Option ℕ) (j : ℕ) → is_some offer ≡ false → is_at offer j ≡ false
none_dark None j e = refl
none_dark (Some _) j e = absurd (cc)

head_there : (left : List Value) → is_empty left ≡ false → is_some (first_of left) ≡ true
head_there [] e = absurd (cc)
head_there (_ ∷ _) e = refl

module _ (o : OutletState) (k : ℕ) (may : may_offer o ≡ Some k) (carried : carries k o.ends ≡ true) where
  abbrev offered_link : ℕ
  offered_link = (end_at o k).rule.id

  abbrev chosen : ℕ
  chosen = place_in o.next (head_of o) o.ends

  told : MayOffer (is_empty o.left) (is_held_back o) (ltb chosen (length o.ends)) (is_free (stage_at o chosen)) chosen k
  told = may_where (is_empty o.left) (is_held_back o) (ltb chosen (length o.ends)) (is_free (stage_at o chosen)) chosen k may

  none_spoken_for : is_some o.offer ≡ false
  none_spoken_for = (or_parts (is_some o.offer) (is_renewing o) told.none_out).0

  parts : (place_of offered_link o.ends == k ≡ true) × (has_room (end_at o k).rule.max (end_at o k).given ≡ true)
  parts = and_parts (place_of offered_link o.ends == k) (has_room (end_at o k).rule.max (end_at o k).given) carried

  place_is_k : place_of offered_link o.ends ≡ k
  place_is_k = eqb-true (place_of offered_link o.ends) k parts.0

  k_known : k < length o.ends
  k_known = subst (λ (n : ℕ). n < length o.ends) told.place_is (ltb-true chosen (length o.ends) told.known)

  free_at_k : stage_at o k ≡ source.Free
  free_at_k = free_stage (stage_at o k) (subst (λ (n : ℕ). is_free (stage_at o n) ≡ true) told.place_is told.is_free)

  abbrev offered : OutletState
  offered = offers k (prepares o)

  abbrev offered_end : OutEnd
  offered_end = record (end_at o k) { stage = source.Out o.next }

  alone_offered : Alone k o offered
  alone_offered = alone_set k o offered offered_end refl refl

  shown_offered : end_shown k offered_end offered ≡ source.Out o.next
  shown_offered =
      let ready : is_ready k offered_end offered ≡ true =
      all_four (k == k) (not (is_empty o.left)) (is_some (head_of o)) (has_room (end_at o k).rule.max (end_at o k).given)
      (eq-eqb k k refl) (ap not told.some) (head_there o.left told.some) parts.1 in
      ap₂ (λ (r b : Bool). cond (r && b) (source.Out o.next) source.Crossing) ready (eq-eqb o.next o.next refl)

  known_link : place_of offered_link o.ends < length o.ends
  known_link = subst (λ (n : ℕ). n < length o.ends) (sym place_is_k) k_known

  pub offer_moves : MovesBy (GoesOut o.next) offered_link (source_over o) (source_over offered)
  offer_moves =
      let alone : Alone (place_of offered_link o.ends) o offered = subst (λ (n : ℕ). Alone n o offered) (sym place_is_k) alone_offered in
      let shown : end_shown (place_of offered_link o.ends) (end_at offered (place_of offered_link o.ends)) offered ≡ source.Out o.next =
      subst (λ (n : ℕ). end_shown n (end_at offered n) offered ≡ source.Out o.next) (sym place_is_k)
      (ap (λ (end : OutEnd). end_shown k end offered) (set_here k o offered offered_end refl k_known) ∙ shown_offered) in
      let before : source_over o offered_link ≡ source.Free =
      ap (λ (n : ℕ). place_shown n o) place_is_k ∙ shown_known o k k_known
      ∙ ap (λ (s : SourceStage). source_shown (is_ready k (end_at o k) o) o.next s) free_at_k in
      record {
        here = subst (λ (s : SourceStage). GoesOut o.next s (source_over offered offered_link)) (sym before)
            (there (λ end. end) o offered offered_link known_link alone (source.Out o.next) shown);
        elsewhere = stays o offered offered_link known_link alone refl
            (λ j far. none_dark o.offer j none_spoken_for)
            (λ j far. out_only k j (λ e. far (e ∙ sym place_is_k)));
      }

-- A message that is given

taken_waiting : (head out : Bool) → (head && not out) ≡ true → out ≡ false
taken_waiting true false e = refl
taken_waiting true true e = absurd (cc)
taken_waiting false out e = absurd (cc)

taken_where : (ready head busy : Bool) (header : ℕ) (stage : SourceStage)
    → MayConsume header busy (cond (ready && head) stage source.Crossing) → ready ≡ true
taken_where true head busy header stage may = refl
taken_where false head busy header stage may = absurd may

-- where the message is spoken for over an end, it is over no other
pub dark_ready : (o : OutletState) (k : ℕ) → is_ready k (end_at o k) o ≡ true → (j : ℕ) → j ≢ k → is_at o.offer j ≡ false
dark_ready o k ready j far =
    ap (λ (offer : Option ℕ). is_at offer j)
    (at_is o.offer k (first_of_four (is_at o.offer k) (not (is_empty o.left)) (is_some o.parcel) (has_room (end_at o k).rule.max (end_at o k).given) ready))
    ∙ out_only k j far

-- no offer is out over another end
module _ (o : OutletState) (k header : ℕ) (busy : Bool) where
  dark_where : (stage : SourceStage) → MayConsume header busy (source_shown (is_ready k (end_at o k) o) o.next stage)
      → is_taken o.next (is_some o.offer) stage ≡ true → (j : ℕ) → j ≢ k → is_at o.offer j ≡ false
  dark_where (source.Accepted i) may taken j far =
      dark_ready o k (taken_where (is_ready k (end_at o k) o) (i == o.next) busy header (source.Accepted i) may) j far
  dark_where (source.Reserved i) may taken j far =
      dark_ready o k (taken_where (is_ready k (end_at o k) o) (i == o.next) busy header (source.Reserved i) may) j far
  dark_where (source.Waiting i) may taken j far = none_dark o.offer j (taken_waiting (i == o.next) (is_some o.offer) taken)
  dark_where (source.Wished i) may taken j far = absurd may
  dark_where source.Free may taken j far = absurd (cc)
  dark_where (source.Posted _) may taken j far = absurd (cc)
  dark_where (source.Out _) may taken j far = absurd (cc)
  dark_where (source.AskedBy _) may taken j far = absurd (cc)
  dark_where (source.Claimed _) may taken j far = absurd (cc)
  dark_where source.Crossing may taken j far = absurd (cc)
  dark_where source.Refused may taken j far = absurd (cc)
  dark_where (source.Ended _) may taken j far = absurd (cc)

forgets_by : (head : Bool) (header next i : ℕ) → header ≡ next → (i == next) ≡ head
    → StaysOrForgets header (cond head (source.Waiting i) source.Free) source.Free
forgets_by true header next i same is = inr (eqb-true i next is ∙ sym same, refl)
forgets_by false header next i same is = refl

forgets_stage : (header next later : ℕ) (stage : SourceStage) → header ≡ next
    → StaysOrForgets header (source_shown false next stage) (source_shown false later (forgotten_stage stage))
forgets_stage header next later (source.Waiting i) same = forgets_by (i == next) header next i same refl
forgets_stage header next later source.Free same = refl
forgets_stage header next later (source.Posted _) same = refl
forgets_stage header next later (source.Out _) same = refl
forgets_stage header next later (source.Accepted _) same = refl
forgets_stage header next later (source.Wished _) same = refl
forgets_stage header next later (source.AskedBy _) same = refl
forgets_stage header next later (source.Reserved _) same = refl
forgets_stage header next later (source.Claimed _) same = refl
forgets_stage header next later source.Crossing same = refl
forgets_stage header next later source.Refused same = refl
forgets_stage header next later (source.Ended _) same = refl

module _ (o : OutletState) (k header : ℕ) where
  abbrev wanted : OutletState
  wanted = looks k (Wanted header) o

  abbrev given : OutletState
  given = gives k wanted

  abbrev home : OutletState
  home = looks k Idle given

  abbrev told_room : OutletState
  told_room = record (gives_home k header o) { room = 0 }

  alone_home : Alone k o home
  alone_home =
      let first : Alone k o wanted = alone_set k o wanted (record (end_at o k) { stage = source_looks (stage_at o k) (Wanted header) }) refl refl in
      let second : Alone k wanted given = alone_set k wanted given (given_end wanted.next (end_at wanted k)) refl refl in
      let third : Alone k given home = alone_set k given home (record (end_at given k) { stage = source_looks (stage_at given k) Idle }) refl refl in
      alone_both k o given home (alone_both k o wanted given first second) third

  given_known : k < length o.ends → k < length given.ends
  given_known l =
      omega (
        arith,
        l,
        length-set o.ends k (record (end_at o k) { stage = source_looks (stage_at o k) (Wanted header) }),
        length-set wanted.ends k (given_end wanted.next (end_at wanted k)),
      )

  wanted_known : k < length o.ends → k < length wanted.ends
  wanted_known l = omega (arith, l, length-set o.ends k (record (end_at o k) { stage = source_looks (stage_at o k) (Wanted header) }))

  home_free : k < length o.ends → stage_at told_room k ≡ source.Free
  home_free l =
      let crossing : stage_at given k ≡ source.Crossing =
      ap (λ (end : OutEnd). end.stage) (set_here k wanted given (given_end wanted.next (end_at wanted k)) refl (wanted_known l)) in
      let back : stage_at home k ≡ source_looks (stage_at given k) Idle =
      ap (λ (end : OutEnd). end.stage)
      (set_here k given home (record (end_at given k) { stage = source_looks (stage_at given k) Idle }) refl (given_known l)) in
      ap (λ (end : OutEnd). end.stage) (end_mapped forgotten refl home.ends k)
      ∙ ap forgotten_stage (back ∙ ap (λ (s : SourceStage). source_looks s Idle) crossing)

-- what is given was there for the link
pub given_there : (o : OutletState) (link header : ℕ) (value : Value) → consumed link header o ≡ Some value
    → is_there (place_of link o.ends) header o ≡ true
given_there o link header value e = at (is_there (place_of link o.ends) header o) refl
  where
    at : (b : Bool) → is_there (place_of link o.ends) header o ≡ b → is_there (place_of link o.ends) header o ≡ true
    at true is = is
    at false is = let none : consumed link header o ≡ None = ap (λ (b : Bool). cond b (head_of o) None) is in absurd (cc)

-- and was the head
pub there_is_head : (o : OutletState) (k header : ℕ) → is_there k header o ≡ true → is_head header o ≡ true
there_is_head o k header there = (and_parts (is_head header o) (not (is_kept_elsewhere k o)) there).0

pub consumed_home : (o : OutletState) (link header : ℕ) → is_there (place_of link o.ends) header o ≡ true
    → consumes link header o ≡ gives_home (place_of link o.ends) header o
consumed_home o link header there = ap (λ (h : Bool). cond h (gives_home (place_of link o.ends) header o) o) there

pub consume_moves : (o : OutletState) (link header : ℕ) → MayConsume header (is_busy o) (source_over o link)
    → tests_consume (place_of link o.ends) header o ≡ true → is_there (place_of link o.ends) header o ≡ true
    → GivesOver link header (source_over o) (source_over (record (consumes link header o) { room = 0 }))
consume_moves o link header may tested mine_there =
    let k = place_of link o.ends in
    let head = there_is_head o k header mine_there in
    let both = and_parts (ltb k (length o.ends)) (not (is_there k header o) || tests_take k o) tested in
    let l : k < length o.ends = ltb-true k (length o.ends) both.0 in
    let take : tests_take k o ≡ true = ap (λ (h : Bool). not h || tests_take k o) (sym mine_there) ∙ both.1 in
    let taken : is_taken o.next (is_some o.offer) (stage_at o k) ≡ true =
    first_of_three (is_taken o.next (is_some o.offer) (stage_at o k)) (is_some o.parcel) (has_room (end_at o k).rule.max (end_at o k).given) take in
    let same : header ≡ o.next = eqb-true header o.next (and_parts (header == o.next) (not (is_empty o.left)) head).0 in
    let new = told_room o k header in
    let apart : Apart forgotten k o new = apart_mapped forgotten refl (λ end. refl) k o (home o k header) new (alone_home o k header) refl in
    let mine : MayConsume header (is_busy o) (end_shown k (end_at o k) o) = subst (λ (s : SourceStage). MayConsume header (is_busy o) s) (shown_known o k l) may in
    let is : record (consumes link header o) { room = 0 } ≡ new =
    ap (λ (after : OutletState). record after { room = 0 }) (consumed_home o link header mine_there) in
    subst (λ (after : OutletState). GivesOver link header (source_over o) (source_over after)) (sym is) (record {
      here = there forgotten o new link l apart source.Free
          (ap (λ (s : SourceStage). source_shown (is_ready k (end_at new k) new) new.next s) (home_free o k header l));
      elsewhere = elsewhere forgotten o new link l apart (StaysOrForgets header) refl (λ j far.
          subst (λ (s : SourceStage). StaysOrForgets header (end_shown j (end_at o j) o) s) (sym (shown_dark new j (forgotten (end_at o j)) refl))
          (subst (λ (s : SourceStage). StaysOrForgets header s (source_shown false new.next (forgotten_stage (stage_at o j))))
          (sym (shown_dark o j (end_at o j) (dark_where o k header (is_busy o) (stage_at o k) mine taken j far)))
          (forgets_stage header o.next new.next (stage_at o j) same)));
    })
