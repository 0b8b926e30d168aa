-- Over any calls what a block shares out goes by the rules of its links.
use Rattle.std.proofs.Common.{inl, inr, ◌≡◌, ◌≢◌, ℕ, zero, suc, ◌<◌, ◌==◌, ltb, Bool, true, false, not, ◌&&◌, ◌||◌, cond, is_some, List, [], ◌∷◌, ◌++◌, length, map, set, get_or, position, Option, Some, None, unwrap_or, refl, ap, ap₂, sym, subst, ◌∙◌, arith, append-nil, length-append, eqb-true, eq-eqb, ne_eqb}
use Rattle.std.proofs.lemmas.Bool.{and_parts, ltb-true, cases_eq}
use Rattle.std.proofs.lemmas.List.{length-map, length-set, get_or-set_same, get_or-set_other}
use Rattle.std.proofs.lemmas.List.Quantifiers.{position-Some}
use Rattle.std.proofs.Math.ListN.{get_or-map}
use Rattle.std.proofs.Math.Seq.{map-set_same}
use Rattle.flow_value.specs.When.{admits}
use Rattle.flow_value.specs.declared.value.Value.{Value}
use Rattle.flow_value.specs.declared.message.MessageStatus.{MessageStatus}
use Rattle.flow_link.specs.declared.phase.Phase.TheVariants.{Idle, Wanted, Asked, Postponed}
use Rattle.flow_link.specs.declared.phase.Phase.{Phase}
use Rattle.flow_link.specs.declared.stage.SourceStage.TheVariants as source
use Rattle.flow_link.specs.LinkOk.{IsWithin}
use Rattle.flow_link.specs.Lists.{every}
use Rattle.flow_link.specs.Stage.{source_looks}
use Rattle.flow_link.proofs.OneMoreMark.{every_more}
use Rattle.flow_outlet.specs.ByLink.{IsAsked, place_of, answered, answer_stage, answer_declined, is_there, has_room, tests_take, tests_consume, forgotten, forgets, gives_home, MayReserve, reserved, reserves, keeps, IsReserved, forgotten_for, releases}
use Rattle.flow_outlet.specs.End.{end_in, no_end, counted}
use Rattle.flow_outlet.specs.KeepsByLink.{settles_it}
use Rattle.flow_outlet.specs.Law.{admits_head, may_go_past}
use Rattle.flow_outlet.specs.Outlet.{OutletState, head_of, is_empty, is_at, end_at, stage_at, may_offer, puts, lacks_ids, prepares, offers, looks, gives, given_end, holds}
use Rattle.flow_outlet.specs.declared.ends.OutEnd.{OutEnd}
use Rattle.flow_block.specs.Traits.{is_ready, end_shown, source_over, may_take}
use Rattle.flow_link.proofs.PlacesNamed.{place_set, place_map}
use Rattle.flow_block.proofs.SourceStands.{shown_known, shown_out}
use Rattle.flow_history.specs.History.{Gift, given_over, gifts_of}
use Rattle.flow_history.specs.Ordered.{NamesItsEnd, GivenByRule}
use Rattle.flow_history.proofs.ExitsAsked.{AskedLaw, puts_law, offers_law, answers_law, gifts_law, admitted_by_law, within_by_law, past_by_law, reserves_law, releases_law}

-- Links that stay where they are, and what was given over each

record SameOuts (old new : OutletState) : Type 0 where
  pub count : length new.ends ≡ length old.ends
  pub rules : (k : ℕ) → (end_at new k).rule ≡ (end_at old k).rule
  pub counts : (k : ℕ) → (end_at new k).given ≡ (end_at old k).given
  pub places : (link : ℕ) → place_of link new.ends ≡ place_of link old.ends

outs_same : (o new : OutletState) → new.ends ≡ o.ends → SameOuts o new
outs_same o new same = record {
  count = ap length same;
  rules = λ k. ap (λ (ends : List OutEnd). (end_in ends k).rule) same;
  counts = λ k. ap (λ (ends : List OutEnd). (end_in ends k).given) same;
  places = λ link. ap (place_of link) same;
}

outs_both : (a b c : OutletState) → SameOuts a b → SameOuts b c → SameOuts a c
outs_both a b c first second = record {
  count = second.count ∙ first.count;
  rules = λ k. second.rules k ∙ first.rules k;
  counts = λ k. second.counts k ∙ first.counts k;
  places = λ link. second.places link ∙ first.places link;
}

-- what a change of one end leaves of each
kept_end : {A : Type 0} (f : OutEnd → A) (ends : List OutEnd) (j k : ℕ) (end : OutEnd) → f end ≡ f (end_in ends j)
    → f (end_in (set ends j end) k) ≡ f (end_in ends k)
kept_end f ends j k end same =
    sym (get_or-map f (set ends j end) k no_end)
    ∙ ap (λ fs. get_or fs k (f no_end)) (map-set_same f ends j end no_end same)
    ∙ get_or-map f ends k no_end

outs_set : (o new : OutletState) (j : ℕ) (end : OutEnd) → new.ends ≡ set o.ends j end → end.rule ≡ (end_at o j).rule
    → end.given ≡ (end_at o j).given → SameOuts o new
outs_set o new j end ends_are rule given = record {
  count = ap length ends_are ∙ length-set o.ends j end;
  rules = λ k. ap (λ (ends : List OutEnd). (end_in ends k).rule) ends_are ∙ kept_end (λ (e : OutEnd). e.rule) o.ends j k end rule;
  counts = λ k. ap (λ (ends : List OutEnd). (end_in ends k).given) ends_are ∙ kept_end (λ (e : OutEnd). e.given) o.ends j k end given;
  places = λ link.
      ap (place_of link) ends_are
      ∙ ap₂ unwrap_or (place_set (λ (e : OutEnd). e.rule.id == link) o.ends j end no_end (ap (λ r. r.id == link) rule)) (length-set o.ends j end);
}

-- each end changes, and keeps its rule and its count
outs_mapped : (change : OutEnd → OutEnd) → ((end : OutEnd) → (change end).rule ≡ end.rule) → ((end : OutEnd) → (change end).given ≡ end.given)
    → (o new : OutletState) → new.ends ≡ map change o.ends → SameOuts o new
outs_mapped change rule given o new ends_are = record {
  count = ap length ends_are ∙ length-map o.ends change;
  rules = λ k. ap (λ (ends : List OutEnd). (end_in ends k).rule) ends_are ∙ rule_of o.ends k;
  counts = λ k. ap (λ (ends : List OutEnd). (end_in ends k).given) ends_are ∙ given_of o.ends k;
  places = λ link.
      ap (place_of link) ends_are
      ∙ ap₂ unwrap_or (place_map (λ (e : OutEnd). e.rule.id == link) change (λ end. ap (λ r. r.id == link) (rule end)) o.ends)
      (length-map o.ends change);
}
  where
    rule_of : (ends : List OutEnd) (k : ℕ) → (end_in (map change ends) k).rule ≡ (end_in ends k).rule
    rule_of [] k = refl
    rule_of (end ∷ ends) zero = rule end
    rule_of (end ∷ ends) (suc k) = rule_of ends k

    given_of : (ends : List OutEnd) (k : ℕ) → (end_in (map change ends) k).given ≡ (end_in ends k).given
    given_of [] k = refl
    given_of (end ∷ ends) zero = given end
    given_of (end ∷ ends) (suc k) = given_of ends k

outs_forgotten : (o : OutletState) → SameOuts o (forgets o)
outs_forgotten o = outs_mapped forgotten (λ end. refl) (λ end. refl) o (forgets o) refl

-- what was given over the link at a place
pub record SoFar (o : OutletState) (gave : List Gift) (k : ℕ) : Type 0 where
  pub admitted : every (admits (end_at o k).rule.when) (given_over (end_at o k).rule.id gave) ≡ true
  pub counted : is_some (end_at o k).rule.max ≡ true → (end_at o k).given ≡ length (given_over (end_at o k).rule.id gave)

-- what holds of the exits of a block that shares its messages out, whether its targets are asked to answer by rule or not
pub record GoesByRule (sure : Bool) (gave : List Gift) (o : OutletState) : Type 0 where
  pub law : AskedLaw sure o
  pub each : (k : ℕ) → k < length o.ends → NamesItsEnd o k → SoFar o gave k

-- where nothing is given
stays_by_rule : (sure : Bool) (gave : List Gift) (old new : OutletState) → SameOuts old new → AskedLaw sure new → GoesByRule sure gave old
    → GoesByRule sure gave new
stays_by_rule sure gave old new same law goes = record {
  law = law;
  each = λ k l own.
      let near : k < length old.ends = (let count = same.count in omega (arith, l, count)) in
      let names : NamesItsEnd old k =
      sym (same.places (end_at old k).rule.id) ∙ ap (λ r. place_of r.id new.ends) (sym (same.rules k)) ∙ own in
      let before = goes.each k near names in
      record {
        admitted = rw (same.rules k) before.admitted;
        counted = λ limited. same.counts k ∙ rw (same.rules k) (before.counted (subst (λ r. is_some r.max ≡ true) (same.rules k) limited));
      };
}

pub puts_by_rule : (sure : Bool) (gave : List Gift) (o : OutletState) (values : List Value) (weight : ℕ) → lacks_ids values o ≡ false
    → GoesByRule sure gave o → GoesByRule sure gave (puts values weight o)
puts_by_rule sure gave o values weight has goes =
    stays_by_rule sure gave o (puts values weight o) (outs_same o (puts values weight o) refl) (puts_law sure o values weight has goes.law) goes

pub offers_by_rule : (sure : Bool) (gave : List Gift) (o : OutletState) (k : ℕ) → may_offer o ≡ Some k → GoesByRule sure gave o
    → GoesByRule sure gave (offers k (prepares o))
offers_by_rule sure gave o k may goes =
    let ready = prepares o in
    let out = offers k ready in
    let end = record (end_at ready k) { declined = (end_at ready k).declined; stage = source.Out ready.next } in
    stays_by_rule sure gave o out (outs_set o out k end refl refl refl) (offers_law sure o k may goes.law) goes

-- An answer

at_is : (offer : Option ℕ) (k : ℕ) → is_at offer k ≡ true → offer ≡ Some k
at_is None k e = absurd (cc)
at_is (Some j) k e = ap Some (eqb-true j k e)

asked_is : (o : OutletState) (link header : ℕ) → source_over o link ≡ source.Out header → IsAsked link header o
asked_is o link header out = at (ltb (place_of link o.ends) (length o.ends)) refl
  where
    at : (there : Bool) → ltb (place_of link o.ends) (length o.ends) ≡ there → IsAsked link header o
    at false is =
        absurd (let e : source.Refused ≡ source.Out header = sym (ap (λ (b : Bool). cond b (end_shown (place_of link o.ends) (end_at o (place_of link o.ends)) o) source.Refused) is) ∙ out in cc)
    at true is =
        let l = ltb-true (place_of link o.ends) (length o.ends) is in
        let end = end_at o (place_of link o.ends) in
        let shown = shown_out (is_ready (place_of link o.ends) end o) o.next header end.stage (sym (shown_known o (place_of link o.ends) l) ∙ out) in
        let parts = and_parts (is_at o.offer (place_of link o.ends) && not (is_empty o.left) && is_some o.parcel) (has_room end.rule.max end.given) shown.ready_is in
        let more = and_parts (is_at o.offer (place_of link o.ends) && not (is_empty o.left)) (is_some o.parcel) parts.0 in
        record {
          known = l;
          unanswered = shown.stage_is;
          out = at_is o.offer (place_of link o.ends) (and_parts (is_at o.offer (place_of link o.ends)) (not (is_empty o.left)) more.0).0;
        }

pub answers_by_rule : (sure : Bool) (gave : List Gift) (o : OutletState) (link header : ℕ) (how : MessageStatus)
    → source_over o link ≡ source.Out header
    → (sure ≡ true → settles_it how ≡ false → (end_at o (place_of link o.ends)).rule.steady ≡ false) → GoesByRule sure gave o
    → GoesByRule sure gave (answered how header (place_of link o.ends) o)
answers_by_rule sure gave o link header how out steady goes =
    let k = place_of link o.ends in
    let end = record (end_at o k) { declined = answer_declined how header (end_at o k).declined; stage = answer_stage how header } in
    stays_by_rule sure gave o (answered how header k o) (outs_set o (answered how header k o) k end refl refl refl)
    (answers_law sure o link header how (asked_is o link header out) steady goes.law) goes

-- A message is kept, or given up

outs_looked : (o : OutletState) (k : ℕ) (phase : Phase) → SameOuts o (looks k phase o)
outs_looked o k phase =
    outs_set o (looks k phase o) k (record (end_at o k) { declined = (end_at o k).declined; stage = source_looks (stage_at o k) phase })
    refl refl refl

outs_kept : (o : OutletState) (link header : ℕ) (keep : Bool) → SameOuts o (cond keep (keeps (place_of link o.ends) header o) o)
outs_kept o link header true =
    let k = place_of link o.ends in
    let asked = looks k (Asked header) o in
    outs_both o asked (holds k asked) (outs_looked o k (Asked header))
    (outs_set asked (holds k asked) k (record (end_at asked k) { declined = (end_at asked k).declined; stage = source.Reserved o.next }) refl refl refl)
outs_kept o link header false = outs_same o o refl

pub reserves_by_rule : (sure : Bool) (gave : List Gift) (o : OutletState) (link header : ℕ) → MayReserve link header o
    → GoesByRule sure gave o → GoesByRule sure gave (reserves link header o)
reserves_by_rule sure gave o link header may goes =
    stays_by_rule sure gave o (reserves link header o) (outs_kept o link header (reserved header o)) (reserves_law sure o link header may goes.law) goes

pub releases_by_rule : (sure : Bool) (gave : List Gift) (o : OutletState) (link header : ℕ) → IsReserved link header o
    → GoesByRule sure gave o → GoesByRule sure gave (releases link header o)
releases_by_rule sure gave o link header kept goes =
    let looked = looks (place_of link o.ends) (Postponed header) o in
    stays_by_rule sure gave o (releases link header o)
    (outs_both o looked (releases link header o) (outs_looked o (place_of link o.ends) (Postponed header))
    (outs_mapped (forgotten_for o.next) (λ end. refl) (λ end. refl) looked (releases link header o) refl))
    (releases_law sure o link header kept goes.law) goes

-- A message is given

own_link : (link : ℕ) (ends : List OutEnd) (place : Option ℕ) → position (λ (end : OutEnd). end.rule.id == link) ends ≡ place
    → unwrap_or place (length ends) < length ends → (end_in ends (unwrap_or place (length ends))).rule.id ≡ link
own_link link ends (Some k) at l =
    eqb-true (end_in ends k).rule.id link (position-Some (λ (end : OutEnd). end.rule.id == link) ends k no_end at).1
own_link link ends None at l = absurd (omega (arith, l))

module _ (sure : Bool) (gave : List Gift) (o : OutletState) (goes : GoesByRule sure gave o) (link header : ℕ) (value : Value)
    (head : head_of o ≡ Some value) (takes : may_take link header o ≡ true) where
  abbrev at : ℕ
  at = place_of link o.ends

  tests : (tests_consume at header o ≡ true) × (is_there at header o ≡ true)
  tests = and_parts (tests_consume at header o) (is_there at header o) takes

  near : at < length o.ends
  near = ltb-true at (length o.ends) (and_parts (ltb at (length o.ends)) (not (is_there at header o) || tests_take at o) tests.0).0

  may_now : tests_take at o ≡ true
  may_now = second_of (is_there at header o) (tests_take at o) tests.1 (and_parts (ltb at (length o.ends)) (not (is_there at header o) || tests_take at o) tests.0).1
    where
      second_of : (a b : Bool) → a ≡ true → (not a || b) ≡ true → b ≡ true
      second_of true b e or = or
      second_of false b e or = absurd (cc)

  abbrev looked : OutletState
  looked = looks at (Wanted header) o

  abbrev looked_end : OutEnd
  looked_end = record (end_at o at) { declined = (end_at o at).declined; stage = source_looks (stage_at o at) (Wanted header) }

  looked_outs : SameOuts o looked
  looked_outs = outs_set o looked at looked_end refl refl refl

  near_looked : at < length looked.ends
  near_looked = (let l = near in let count = looked_outs.count in omega (arith, l, count))

  abbrev gone : OutletState
  gone = gives at looked

  abbrev gone_end : OutEnd
  gone_end = given_end looked.next (end_at looked at)

  abbrev home : OutletState
  home = looks at Idle gone

  -- all that becomes of the exits, once the room has come back
  abbrev given_exits : OutletState
  given_exits = record (gives_home at header o) { room = 0 }

  after_outs : SameOuts gone given_exits
  after_outs =
      outs_both gone (forgets home) given_exits
      (outs_both gone home (forgets home)
      (outs_set gone home at (record (end_at gone at) { declined = (end_at gone at).declined; stage = source_looks (stage_at gone at) Idle }) refl refl refl)
      (outs_forgotten home))
      (outs_same (forgets home) given_exits refl)

  gone_rules : (k : ℕ) → (end_at gone k).rule ≡ (end_at looked k).rule
  gone_rules k = kept_end (λ (e : OutEnd). e.rule) looked.ends at k gone_end refl

  -- over its own link one more, and over no other
  rules_are : (k : ℕ) → (end_at given_exits k).rule ≡ (end_at o k).rule
  rules_are k = after_outs.rules k ∙ gone_rules k ∙ looked_outs.rules k

  places_are : (l : ℕ) → place_of l given_exits.ends ≡ place_of l o.ends
  places_are l =
      after_outs.places l
      ∙ ap₂ unwrap_or (place_set (λ (e : OutEnd). e.rule.id == l) looked.ends at gone_end no_end refl) (length-set looked.ends at gone_end)
      ∙ looked_outs.places l

  count_are : length given_exits.ends ≡ length o.ends
  count_are = after_outs.count ∙ length-set looked.ends at gone_end ∙ looked_outs.count

  given_here : (end_at given_exits at).given ≡ counted (end_at o at).rule.max (end_at o at).given
  given_here =
      after_outs.counts at ∙ ap (λ (end : OutEnd). end.given) (get_or-set_same looked.ends at gone_end no_end near_looked)
      ∙ ap₂ (λ (max : Option ℕ) (n : ℕ). counted max n) (ap (λ r. r.max) (looked_outs.rules at)) (looked_outs.counts at)

  given_there : (k : ℕ) → k ≢ at → (end_at given_exits k).given ≡ (end_at o k).given
  given_there k apart =
      after_outs.counts k ∙ ap (λ (end : OutEnd). end.given) (get_or-set_other looked.ends at k gone_end no_end apart) ∙ looked_outs.counts k

  admits_it : admits (end_at o at).rule.when value ≡ true
  admits_it =
      sym (ap (λ (h : Option Value). admits_head (end_at o at).rule.when h) head) ∙ admitted_by_law sure o goes.law at header near may_now

  counts_one : (max : Option ℕ) (given : ℕ) (values : List Value) → is_some max ≡ true → given ≡ length values
      → counted max given ≡ length (values ++ value ∷ [])
  counts_one None given values limited is = absurd (cc)
  counts_one (Some limit) given values limited is = let more = length-append values (value ∷ []) in omega (arith, is, more)

  given_more : (id : ℕ) (here : Bool) → (link == id) ≡ here → given_over id (gave ++ gifts_of link (Some value)) ≡ given_over id gave ++ cond here (value ∷ []) []
  given_more id here is = of_gifts gave
    where
      of_gifts : (gifts : List Gift) → given_over id (gifts ++ gifts_of link (Some value)) ≡ given_over id gifts ++ cond here (value ∷ []) []
      of_gifts [] = ap (λ (b : Bool). cond b (value ∷ []) []) is
      of_gifts (gift ∷ gifts) = one (gift.link == id) (of_gifts gifts)
        where
          one : (mine : Bool) → given_over id (gifts ++ gifts_of link (Some value)) ≡ given_over id gifts ++ cond here (value ∷ []) []
              → cond mine (gift.value ∷ given_over id (gifts ++ gifts_of link (Some value))) (given_over id (gifts ++ gifts_of link (Some value)))
              ≡ cond mine (gift.value ∷ given_over id gifts) (given_over id gifts) ++ cond here (value ∷ []) []
          one true rest = ap (λ (vs : List Value). gift.value ∷ vs) rest
          one false rest = rest

  so_far_here : SoFar o gave at → SoFar given_exits (gave ++ gifts_of link (Some value)) at
  so_far_here before =
      let mine : (end_at o at).rule.id ≡ link = own_link link o.ends (position (λ (end : OutEnd). end.rule.id == link) o.ends) refl near in
      let more = given_more (end_at o at).rule.id true (eq-eqb link (end_at o at).rule.id (sym mine)) in
      record {
        admitted = rw (rules_are at, more)
            (every_more (admits (end_at o at).rule.when) (given_over (end_at o at).rule.id gave) value before.admitted admits_it);
        counted = λ limited.
            let some = subst (λ r. is_some r.max ≡ true) (rules_are at) limited in
            given_here
            ∙ counts_one (end_at o at).rule.max (end_at o at).given (given_over (end_at o at).rule.id gave) some (before.counted some)
            ∙ ap length (sym more)
            ∙ ap (λ r. length (given_over r.id (gave ++ gifts_of link (Some value)))) (sym (rules_are at));
      }

  so_far_there : (k : ℕ) → k ≢ at → NamesItsEnd o k → SoFar o gave k → SoFar given_exits (gave ++ gifts_of link (Some value)) k
  so_far_there k apart own before =
      let other : link ≡ (end_at o k).rule.id → ⊥ = λ same. apart (sym own ∙ ap (λ (n : ℕ). place_of n o.ends) (sym same)) in
      let more = given_more (end_at o k).rule.id false (ne_eqb link (end_at o k).rule.id other) ∙ append-nil (given_over (end_at o k).rule.id gave) in
      record {
        admitted = rw (rules_are k, more) before.admitted;
        counted = λ limited.
            given_there k apart ∙ before.counted (subst (λ r. is_some r.max ≡ true) (rules_are k) limited)
            ∙ ap length (sym more)
            ∙ ap (λ r. length (given_over r.id (gave ++ gifts_of link (Some value)))) (sym (rules_are k));
      }

  pub gives_by_rule : GoesByRule sure (gave ++ gifts_of link (Some value)) given_exits
  gives_by_rule = record {
    law = gifts_law sure o goes.law at header near may_now;
    each = λ k l own.
        let there : k < length o.ends = (let count = count_are in omega (arith, l, count)) in
        let names : NamesItsEnd o k =
        sym (places_are (end_at o k).rule.id) ∙ ap (λ r. place_of r.id given_exits.ends) (sym (rules_are k)) ∙ own in
        elim (cases_eq k at) [
          | inl same ↦
              subst (λ (n : ℕ). SoFar given_exits (gave ++ gifts_of link (Some value)) n) (sym same)
              (so_far_here (subst (λ (n : ℕ). SoFar o gave n) same (goes.each k there names)))
          | inr apart ↦ so_far_there k apart names (goes.each k there names)
        ];
  }

-- What the law says

pub goes_past : (gave : List Gift) (o : OutletState) → GoesByRule true gave o → (link header : ℕ) (value : Value) → head_of o ≡ Some value
    → may_take link header o ≡ true → (j : ℕ) → j < place_of link o.ends → may_go_past (Some value) (end_at o j) ≡ true
goes_past gave o goes link header value head takes j before =
    ap (λ (h : Option Value). may_go_past h (end_at o j)) (sym head)
    ∙ past_by_law o goes.law (place_of link o.ends) header (near true gave o goes link header value head takes)
    (may_now true gave o goes link header value head takes) j before

within_rule : (max : Option ℕ) (given count : ℕ) → IsWithin max given → (is_some max ≡ true → given ≡ count) → IsWithin max count
within_rule None given count within is = tt
within_rule (Some limit) given count within is = let same = is refl in omega (arith, within, same)

pub rules_say : (sure : Bool) (gave : List Gift) (o : OutletState) → GoesByRule sure gave o → (k : ℕ) → k < length o.ends → NamesItsEnd o k → GivenByRule o gave k
rules_say sure gave o goes k l own =
    let so_far = goes.each k l own in
    record {
      admitted = so_far.admitted;
      within = within_rule (end_at o k).rule.max (end_at o k).given (length (given_over (end_at o k).rule.id gave)) (within_by_law sure o goes.law k l) so_far.counted;
    }
