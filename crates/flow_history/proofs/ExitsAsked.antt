-- The law of a block's exits, whether their targets are asked to answer by the rules of their links or not. Where they are not, it is
-- the law of the same exits with no steady link: no call looks at that.
use Rattle.std.proofs.Common.{◌≡◌, ℕ, ◌<◌, ◌+◌, ◌==◌, ltb, Bool, true, false, not, ◌&&◌, ◌||◌, cond, is_some, List, [], ◌∷◌, length, map, set, get_or, Option, Some, None, unwrap_or, refl, ap, ap₂, sym, subst, ◌∙◌, arith}
use Rattle.std.proofs.lemmas.Bool.{and_parts, and_from, not-true, ltb-true}
use Rattle.std.proofs.lemmas.List.{length-map, length-set, map-set, get_or-set_same, get_or-set_other}
use Rattle.std.proofs.Math.ListN.{get_or-map}
use Rattle.std.specs.Bool.{OnTrue}
use Rattle.std.specs.List.{list_any}
use Rattle.flow_value.specs.declared.value.Value.{Value}
use Rattle.flow_value.specs.declared.message.MessageStatus.{MessageStatus}
use Rattle.flow_link.specs.declared.phase.Phase.{Phase}
use Rattle.flow_link.specs.declared.phase.Phase.TheVariants.{Idle, Wanted, Asked, Postponed}
use Rattle.flow_link.specs.declared.stage.SourceStage.{SourceStage}
use Rattle.flow_link.specs.declared.stage.SourceStage.TheVariants as source
use Rattle.flow_link.specs.LinkOk.{IsWithin, HasRoom}
use Rattle.flow_link.specs.Stage.{source_looks, source_is_released}
use Rattle.flow_outlet.specs.ByLink.{IsAsked, place_of, answered, answer_stage, answer_declined, is_taken, has_room, tests_take, forgotten, forgets, gives_home, MayReserve, reserved, reserves, keeps, IsReserved, forgotten_for, forgets_all, releases}
use Rattle.flow_outlet.specs.End.{no_end, is_passed, place_in, is_spoken_for, is_free, waits_with, fresh_end, is_out}
use Rattle.flow_outlet.specs.KeepsByLink.{settles_it}
use Rattle.flow_outlet.specs.Law.{OutletLaw, is_put_off, admits_head, may_go_past}
use Rattle.flow_outlet.specs.Outlet.{OutletState, head_of, is_empty, is_at, end_at, stage_at, is_held_back, offer_at, may_offer, puts, lacks_ids, prepares, offers, looks, may_give, is_wanted, offer_kept, gives, given_end, fresh_outlet, out_at, holds}
use Rattle.flow_outlet.specs.declared.ends.LinkRule.{LinkRule}
use Rattle.flow_outlet.specs.declared.ends.OutEnd.{OutEnd}
use Rattle.flow_outlet.proofs.LawKept.{calls_keep_law, gives_in_order}
use Rattle.flow_outlet.proofs.LinkCallsKeep.{link_calls_keep}
use Rattle.flow_link.proofs.PlacesNamed.{place_map}

-- A gift keeps the law

module _ (o : OutletState) (law : OutletLaw true None o) (at header : ℕ) (near : at < length o.ends) (takes : tests_take at o ≡ true) where
  -- where a message may be taken, a look finds it wanted
  record IsWanted (stage : SourceStage) : Type 0 where
    pub put_off : OnTrue (is_put_off (source_looks stage (Wanted header))) ((end_at o at).rule.steady ≡ false)
    pub wanted : is_wanted o.next (is_some (offer_kept at (source_looks stage (Wanted header)) o.offer)) (source_looks stage (Wanted header)) ≡ true

  -- an offer that is out no more is not put back by a look
  looked_offer : (stage : SourceStage) → is_some o.offer ≡ false → is_some (offer_kept at stage o.offer) ≡ false
  looked_offer stage none = kept_none (is_at o.offer at && not (is_spoken_for stage)) o.offer none
    where
      kept_none : (gone : Bool) (offer : Option ℕ) → is_some offer ≡ false → is_some (cond gone None offer) ≡ false
      kept_none true offer e = refl
      kept_none false offer e = e

  late_wanted : (i : ℕ) (stage : SourceStage) → (i == o.next && not (is_some o.offer)) ≡ true
      → (i == o.next && not (is_some (offer_kept at stage o.offer))) ≡ true
  late_wanted i stage taken =
      let both = and_parts (i == o.next) (not (is_some o.offer)) taken in
      ap (λ (b : Bool). i == o.next && not b) (looked_offer stage (not-true (is_some o.offer) both.1)) ∙ and_from (i == o.next) true both.0 refl

  wanted_where : (stage : SourceStage) → is_taken o.next (is_some o.offer) stage ≡ true
      → OnTrue (is_put_off stage) ((end_at o at).rule.steady ≡ false) → IsWanted stage
  wanted_where (source.Accepted i) taken may = record { put_off = tt; wanted = taken }
  wanted_where (source.Reserved i) taken may = record { put_off = may; wanted = taken }
  wanted_where (source.Waiting i) taken may =
      record { put_off = may; wanted = late_wanted i (source_looks (source.Waiting i) (Wanted header)) taken }
  wanted_where (source.Wished i) taken may =
      record { put_off = may; wanted = late_wanted i (source_looks (source.Wished i) (Wanted header)) taken }
  wanted_where _ taken may = absurd (cc)

  room_for : (max : Option ℕ) (given : ℕ) → has_room max given ≡ true → HasRoom max given
  room_for None given e = tt
  room_for (Some limit) given e = ltb-true given limit e

  taken_parts : ((is_taken o.next (is_some o.offer) (stage_at o at) && is_some o.parcel) ≡ true) × (has_room (end_at o at).rule.max (end_at o at).given ≡ true)
  taken_parts = and_parts (is_taken o.next (is_some o.offer) (stage_at o at) && is_some o.parcel) (has_room (end_at o at).rule.max (end_at o at).given) takes

  wanted_there : IsWanted (stage_at o at)
  wanted_there =
      wanted_where (stage_at o at) (and_parts (is_taken o.next (is_some o.offer) (stage_at o at)) (is_some o.parcel) taken_parts.0).0
      (law.each at near).put_off

  abbrev looked : OutletState
  looked = looks at (Wanted header) o

  abbrev looked_end : OutEnd
  looked_end = record (end_at o at) { declined = (end_at o at).declined; stage = source_looks (stage_at o at) (Wanted header) }

  looked_law : OutletLaw true None looked
  looked_law = calls_keep_law.look true None o law at near (Wanted header) wanted_there.put_off

  near_looked : at < length looked.ends
  near_looked = (let l = near in let count = length-set o.ends at looked_end in omega (arith, l, count))

  end_looked : end_at looked at ≡ looked_end
  end_looked = get_or-set_same o.ends at looked_end no_end near

  may_give_it : may_give at looked ≡ true
  may_give_it = ap (λ (end : OutEnd). is_wanted o.next (is_some looked.offer) end.stage) end_looked ∙ wanted_there.wanted

  abbrev gone : OutletState
  gone = gives at looked

  abbrev gone_end : OutEnd
  gone_end = given_end looked.next (end_at looked at)

  gone_law : OutletLaw true None gone
  gone_law =
      calls_keep_law.give true None looked looked_law at near_looked may_give_it
      (subst (λ (end : OutEnd). HasRoom end.rule.max end.given) (sym end_looked) (room_for (end_at o at).rule.max (end_at o at).given taken_parts.1))

  near_gone : at < length gone.ends
  near_gone = (let l = near_looked in omega (arith, l, length-set looked.ends at gone_end))

  home_free : OnTrue (is_put_off (source_looks (stage_at gone at) Idle)) ((end_at gone at).rule.steady ≡ false)
  home_free =
      let crossing : stage_at gone at ≡ source.Crossing = ap (λ (end : OutEnd). end.stage) (get_or-set_same looked.ends at gone_end no_end near_looked) in
      subst (λ (stage : SourceStage). OnTrue (is_put_off (source_looks stage Idle)) ((end_at gone at).rule.steady ≡ false)) (sym crossing) tt

  abbrev home : OutletState
  home = looks at Idle gone

  -- the room has come back then
  gift_keeps : OutletLaw true None (record (gives_home at header o) { room = 0 })
  gift_keeps =
      calls_keep_law.room_back true None (gives_home at header o)
      (link_calls_keep.forget true None home (calls_keep_law.look true None gone gone_law at near_gone Idle home_free))

  gift_admitted : admits_head (end_at o at).rule.when (head_of o) ≡ true
  gift_admitted =
      ap (λ (end : OutEnd). admits_head end.rule.when (head_of o)) (sym end_looked)
      ∙ gives_in_order.admitted true None looked looked_law at near_looked may_give_it

  gift_goes_past : (j : ℕ) → j < at → may_go_past (head_of o) (end_at o j) ≡ true
  gift_goes_past j before =
      ap (may_go_past (head_of o)) (sym (get_or-set_other o.ends at j looked_end no_end (λ e. let far = before in omega (arith, far, e))))
      ∙ gives_in_order.earlier true None looked looked_law at near_looked may_give_it j before

-- Where targets are asked, or not

abbrev pub asked_rule : Bool → LinkRule → LinkRule
asked_rule sure rule = record rule { steady = sure && rule.steady }

abbrev pub asked_end : Bool → OutEnd → OutEnd
asked_end sure end = record end { rule = asked_rule sure end.rule }

abbrev pub asked : Bool → OutletState → OutletState
asked sure o = record o { ends = map (asked_end sure) o.ends }

abbrev pub AskedLaw : Bool → OutletState → Type 0
AskedLaw sure o = OutletLaw true None (asked sure o)

-- where they are, that changes nothing
asked_surely : (ends : List OutEnd) → map (asked_end true) ends ≡ ends
asked_surely [] = refl
asked_surely (end ∷ ends) = ap (λ (rest : List OutEnd). end ∷ rest) (asked_surely ends)

pub law_surely : (o : OutletState) → AskedLaw true o → OutletLaw true None o
law_surely o law = subst (λ (ends : List OutEnd). OutletLaw true None (record o { ends = ends })) (asked_surely o.ends) law

module _ (sure : Bool) where
  no_end_asked : asked_end sure no_end ≡ no_end
  no_end_asked = of sure
    where
      of : (b : Bool) → asked_end b no_end ≡ no_end
      of true = refl
      of false = refl

  end_asked : (o : OutletState) (k : ℕ) → end_at (asked sure o) k ≡ asked_end sure (end_at o k)
  end_asked o k =
      ap (λ (none : OutEnd). get_or (map (asked_end sure) o.ends) k none) (sym no_end_asked) ∙ get_or-map (asked_end sure) o.ends k no_end

  count_asked : (o : OutletState) → length (asked sure o).ends ≡ length o.ends
  count_asked o = length-map o.ends (asked_end sure)

  place_asked : (o : OutletState) (link : ℕ) → place_of link (asked sure o).ends ≡ place_of link o.ends
  place_asked o link = ap₂ unwrap_or (place_map (λ (e : OutEnd). e.rule.id == link) (asked_end sure) (λ end. refl) o.ends) (count_asked o)

  -- one end changes in the same way
  changed : (f : OutEnd → OutEnd) → ((end : OutEnd) → f (asked_end sure end) ≡ asked_end sure (f end)) → (k : ℕ) (o : OutletState)
      → set (asked sure o).ends k (f (end_at (asked sure o) k)) ≡ map (asked_end sure) (set o.ends k (f (end_at o k)))
  changed f same k o =
      ap (λ (end : OutEnd). set (map (asked_end sure) o.ends) k (f end)) (end_asked o k)
      ∙ ap (λ (end : OutEnd). set (map (asked_end sure) o.ends) k end) (same (end_at o k))
      ∙ sym (map-set (asked_end sure) o.ends k (f (end_at o k)))

  first_asked : (next : ℕ) (head : Option Value) (ends : List OutEnd) → place_in next head (map (asked_end sure) ends) ≡ place_in next head ends
  first_asked next head [] = refl
  first_asked next head (end ∷ ends) = ap (λ (n : ℕ). cond (is_passed next head end) (n + 1) 0) (first_asked next head ends)

  any_asked : (id : ℕ) (ends : List OutEnd) → list_any (waits_with id) (map (asked_end sure) ends) ≡ list_any (waits_with id) ends
  any_asked id [] = refl
  any_asked id (end ∷ ends) = ap (λ (rest : Bool). waits_with id end || rest) (any_asked id ends)

  next_asked : (o : OutletState) → may_offer (asked sure o) ≡ may_offer o
  next_asked o =
      let k = place_in o.next (head_of o) o.ends in
      ap (λ (n : ℕ). offer_at n (asked sure o)) (first_asked o.next (head_of o) o.ends)
      ∙ ap (λ (back : Bool).
      cond (is_empty o.left || (is_some o.offer || (o.renewing && back)) || not (ltb k (length (asked sure o).ends))
      || not (is_free (stage_at (asked sure o) k))) None (Some k))
      (any_asked o.next o.ends)
      ∙ ap₂ (λ (count : ℕ) (stage : SourceStage). cond (is_empty o.left || is_held_back o || not (ltb k count) || not (is_free stage)) None (Some k))
      (count_asked o) (ap (λ (end : OutEnd). end.stage) (end_asked o k))

  same_offers : (k : ℕ) (o : OutletState) → offers k (asked sure o) ≡ asked sure (offers k o)
  same_offers k o = ap (λ (ends : List OutEnd). record (offers k o) { ends = ends })
      (changed (λ (end : OutEnd). record end { declined = end.declined; stage = source.Out o.next }) (λ end. refl) k o)

  same_answers : (how : MessageStatus) (header k : ℕ) (o : OutletState) → answered how header k (asked sure o) ≡ asked sure (answered how header k o)
  same_answers how header k o = ap (λ (ends : List OutEnd). record (answered how header k o) { ends = ends })
      (changed (λ (end : OutEnd). record end { declined = answer_declined how header end.declined; stage = answer_stage how header }) (λ end. refl) k o)

  same_looks : (k : ℕ) (phase : Phase) (o : OutletState) → looks k phase (asked sure o) ≡ asked sure (looks k phase o)
  same_looks k phase o =
      ap₂ (λ (ends : List OutEnd) (stage : SourceStage). record (looks k phase o) {
        ends = ends;
        offer = offer_kept k (source_looks stage phase) o.offer;
        renewing = o.renewing || source_is_released stage phase;
      })
      (changed (λ (end : OutEnd). record end { declined = end.declined; stage = source_looks end.stage phase }) (λ end. refl) k o)
      (ap (λ (end : OutEnd). end.stage) (end_asked o k))

  same_gives : (k : ℕ) (o : OutletState) → gives k (asked sure o) ≡ asked sure (gives k o)
  same_gives k o = ap (λ (ends : List OutEnd). record (gives k o) { ends = ends }) (changed (λ (end : OutEnd). given_end o.next end) (λ end. refl) k o)

  same_forgets : (o : OutletState) → forgets (asked sure o) ≡ asked sure (forgets o)
  same_forgets o = ap (λ (ends : List OutEnd). record o { ends = ends }) (all_forget o.ends)
    where
      all_forget : (ends : List OutEnd) → map forgotten (map (asked_end sure) ends) ≡ map (asked_end sure) (map forgotten ends)
      all_forget [] = refl
      all_forget (end ∷ ends) = ap (λ (rest : List OutEnd). asked_end sure (forgotten end) ∷ rest) (all_forget ends)

  same_gifts : (k header : ℕ) (o : OutletState) → gives_home k header (asked sure o) ≡ asked sure (gives_home k header o)
  same_gifts k header o =
      ap (λ (v : OutletState). forgets (looks k Idle (gives k v))) (same_looks k (Wanted header) o)
      ∙ ap (λ (v : OutletState). forgets (looks k Idle v)) (same_gives k (looks k (Wanted header) o))
      ∙ ap forgets (same_looks k Idle (gives k (looks k (Wanted header) o)))
      ∙ same_forgets (looks k Idle (gives k (looks k (Wanted header) o)))

  same_keeps : (k header : ℕ) (o : OutletState) → keeps k header (asked sure o) ≡ asked sure (keeps k header o)
  same_keeps k header o =
      ap (holds k) (same_looks k (Asked header) o)
      ∙ ap (λ (ends : List OutEnd). record (holds k (looks k (Asked header) o)) { ends = ends })
      (changed (λ (end : OutEnd). record end { declined = end.declined; stage = source.Reserved o.next }) (λ end. refl) k
      (looks k (Asked header) o))

  same_reserves : (link header : ℕ) (o : OutletState) → reserves link header (asked sure o) ≡ asked sure (reserves link header o)
  same_reserves link header o = by (reserved header o)
    where
      by : (b : Bool) → cond b (keeps (place_of link (asked sure o).ends) header (asked sure o)) (asked sure o)
          ≡ asked sure (cond b (keeps (place_of link o.ends) header o) o)
      by true = ap (λ (n : ℕ). keeps n header (asked sure o)) (place_asked o link) ∙ same_keeps (place_of link o.ends) header o
      by false = refl

  same_releases : (link header : ℕ) (o : OutletState) → releases link header (asked sure o) ≡ asked sure (releases link header o)
  same_releases link header o =
      ap (λ (n : ℕ). forgets_all (looks n (Postponed header) (asked sure o))) (place_asked o link)
      ∙ ap forgets_all (same_looks (place_of link o.ends) (Postponed header) o)
      ∙ ap (λ (ends : List OutEnd). record (looks (place_of link o.ends) (Postponed header) o) { ends = ends })
      (all_forgotten (looks (place_of link o.ends) (Postponed header) o).ends)
    where
      all_forgotten : (ends : List OutEnd)
          → map (forgotten_for o.next) (map (asked_end sure) ends) ≡ map (asked_end sure) (map (forgotten_for o.next) ends)
      all_forgotten [] = refl
      all_forgotten (end ∷ ends) =
          ap (λ (rest : List OutEnd). asked_end sure (forgotten_for o.next end) ∷ rest) (all_forgotten ends)

  out_asked : (o : OutletState) (offer : Option ℕ) → out_at (asked sure o) offer ≡ out_at o offer
  out_asked o None = refl
  out_asked o (Some k) = ap (λ (end : OutEnd). is_out end.stage) (end_asked o k)

  -- What keeps the law

  pub fresh_law : (rules : List LinkRule) → AskedLaw sure (fresh_outlet rules 1)
  fresh_law rules =
      subst (λ (ends : List OutEnd). OutletLaw true None (record (fresh_outlet rules 1) { ends = ends })) (fresh_asked rules)
      (calls_keep_law.fresh true None (map (asked_rule sure) rules) 1 (omega arith) (omega arith))
    where
      fresh_asked : (rules : List LinkRule) → map fresh_end (map (asked_rule sure) rules) ≡ map (asked_end sure) (map fresh_end rules)
      fresh_asked [] = refl
      fresh_asked (rule ∷ rules) = ap (λ (rest : List OutEnd). fresh_end (asked_rule sure rule) ∷ rest) (fresh_asked rules)

  pub puts_law : (o : OutletState) (values : List Value) (weight : ℕ) → lacks_ids values o ≡ false → AskedLaw sure o → AskedLaw sure (puts values weight o)
  puts_law o values weight has law = calls_keep_law.put true None (asked sure o) law values weight has

  pub offers_law : (o : OutletState) (k : ℕ) → may_offer o ≡ Some k → AskedLaw sure o → AskedLaw sure (offers k (prepares o))
  offers_law o k may law =
      subst (λ (v : OutletState). OutletLaw true None v) (same_offers k (prepares o))
      (calls_keep_law.offer true (prepares (asked sure o)) (calls_keep_law.prepare true None (asked sure o) law) k (next_asked o ∙ may) refl)

  pub answers_law : (o : OutletState) (link header : ℕ) (how : MessageStatus) → IsAsked link header o
      → (sure ≡ true → settles_it how ≡ false → (end_at o (place_of link o.ends)).rule.steady ≡ false) → AskedLaw sure o
      → AskedLaw sure (answered how header (place_of link o.ends) o)
  answers_law o link header how out steady law =
      let k = place_of link o.ends in
      let place = place_asked o link in
      let count = count_asked o in
      let out_there : IsAsked link header (asked sure o) = record {
        known = (let l = out.known in omega (arith, l, place, count));
        unanswered = ap (stage_at (asked sure o)) place ∙ ap (λ (end : OutEnd). end.stage) (end_asked o k) ∙ out.unanswered;
        out = out.out ∙ ap Some (sym place);
      } in
      subst (λ (v : OutletState). OutletLaw true None v)
      (ap (λ (n : ℕ). answered how header n (asked sure o)) place ∙ same_answers how header k o)
      (link_calls_keep.answer None (asked sure o) law link header how out_there
      (λ late. ap (λ (n : ℕ). (end_at (asked sure o) n).rule.steady) place ∙ ap (λ (end : OutEnd). end.rule.steady) (end_asked o k)
      ∙ unsteady sure (end_at o k).rule.steady (λ is. steady is late)))
    where
      unsteady : (b steady : Bool) → (b ≡ true → steady ≡ false) → (b && steady) ≡ false
      unsteady true steady rule = rule refl
      unsteady false steady rule = refl

  pub reserves_law : (o : OutletState) (link header : ℕ) → MayReserve link header o → AskedLaw sure o → AskedLaw sure (reserves link header o)
  reserves_law o link header may law =
      let k = place_of link o.ends in
      let place = place_asked o link in
      let count = count_asked o in
      let may_there : MayReserve link header (asked sure o) = record {
        known = (let l = may.known in omega (arith, l, place, count));
        waits = ap (stage_at (asked sure o)) place ∙ ap (λ (end : OutEnd). end.stage) (end_asked o k) ∙ may.waits;
        none_out = out_asked o o.offer ∙ may.none_out;
      } in
      subst (λ (v : OutletState). OutletLaw true None v) (same_reserves link header o)
      (link_calls_keep.reserve true None (asked sure o) law link header may_there)

  pub releases_law : (o : OutletState) (link header : ℕ) → IsReserved link header o → AskedLaw sure o → AskedLaw sure (releases link header o)
  releases_law o link header kept law =
      let k = place_of link o.ends in
      let place = place_asked o link in
      let count = count_asked o in
      let kept_there : IsReserved link header (asked sure o) = record {
        known = (let l = kept.known in omega (arith, l, place, count));
        kept = ap (stage_at (asked sure o)) place ∙ ap (λ (end : OutEnd). end.stage) (end_asked o k) ∙ kept.kept;
      } in
      subst (λ (v : OutletState). OutletLaw true None v) (same_releases link header o)
      (link_calls_keep.release true None (asked sure o) law link header kept_there)

  module _ (o : OutletState) (law : AskedLaw sure o) (at header : ℕ) (near : at < length o.ends) (takes : tests_take at o ≡ true) where
    near_asked : at < length (asked sure o).ends
    near_asked = (let l = near in let count = count_asked o in omega (arith, l, count))

    takes_asked : tests_take at (asked sure o) ≡ true
    takes_asked =
        ap (λ (end : OutEnd). is_taken o.next (is_some o.offer) end.stage && is_some o.parcel && has_room end.rule.max end.given) (end_asked o at) ∙ takes

    pub gifts_law : AskedLaw sure (record (gives_home at header o) { room = 0 })
    gifts_law =
        subst (λ (v : OutletState). OutletLaw true None (record v { room = 0 })) (same_gifts at header o)
        (gift_keeps (asked sure o) law at header near_asked takes_asked)

    pub admitted_by_law : admits_head (end_at o at).rule.when (head_of o) ≡ true
    admitted_by_law =
        ap (λ (end : OutEnd). admits_head end.rule.when (head_of o)) (sym (end_asked o at))
        ∙ gift_admitted (asked sure o) law at header near_asked takes_asked

  pub within_by_law : (o : OutletState) → AskedLaw sure o → (k : ℕ) → k < length o.ends → IsWithin (end_at o k).rule.max (end_at o k).given
  within_by_law o law k l =
      let count = count_asked o in
      subst (λ (end : OutEnd). IsWithin end.rule.max end.given) (end_asked o k) (law.each k (omega (arith, l, count))).within

-- where targets answer by rule, a gift goes past the earlier links by theirs
pub past_by_law : (o : OutletState) → AskedLaw true o → (at header : ℕ) → at < length o.ends → tests_take at o ≡ true
    → (j : ℕ) → j < at → may_go_past (head_of o) (end_at o j) ≡ true
past_by_law o law at header near takes j before = gift_goes_past o (law_surely o law) at header near takes j before
