-- How a block's stages at the links over which it copies change by the calls that name a link: each end stands by itself.
use Rattle.std.proofs.Common.{◌≡◌, ◌≢◌, ℕ, ◌<◌, ◌==◌, ltb, Bool, true, false, not, ◌&&◌, ◌||◌, inl, cond, List, length, position, Option, Some, None, is_some, unwrap_or, refl, ap, ap₂, sym, ◌∙◌, subst, arith, eqb-true, eq-eqb}
use Rattle.std.proofs.lemmas.Bool.{and_parts, lt-ltb, ltb-true}
use Rattle.std.proofs.lemmas.List.{length-set, get_or-set_same, get_or-set_other}
use Rattle.std.proofs.lemmas.List.Quantifiers.{position-Some}
use Rattle.flow_value.specs.declared.message.MessageStatus.{MessageStatus}
use Rattle.flow_value.specs.declared.message.MessageStatus.TheVariants as status
use Rattle.flow_link.specs.declared.phase.Phase.TheVariants.{Idle, Wanted}
use Rattle.flow_link.specs.declared.stage.SourceStage.{SourceStage}
use Rattle.flow_link.specs.declared.stage.SourceStage.TheVariants as source
use Rattle.flow_link.specs.SourceCalls.{GoesOut, stage_answered, MayConsume, is_promised, StaysOrForgets, GivesOver}
use Rattle.flow_link.specs.Stage.{source_looks}
use Rattle.flow_link.specs.StagesMove.{MovesBy, MovesTo}
use Rattle.flow_outlet.specs.ByLink.{has_room}
use Rattle.flow_outlet.specs.End.{is_free}
use Rattle.flow_outlet.specs.Outlet.{given_end}
use Rattle.flow_spread.specs.declared.end.CopyEnd.{CopyEnd}
use Rattle.flow_spread.specs.End.{end_in, no_end, is_answer, moved}
use Rattle.flow_spread.specs.Spread.{SpreadState, end_at, link_at, stage_at, changes, prepares, offers, looks, gives}
use Rattle.flow_spread.specs.ByLink.{place_of, IsAsked, answered_link, still_owes, answered, is_there, gives_home}
use Rattle.flow_spread.proofs.NextOffer.{Next}
use Rattle.flow_block.specs.Traits.{source_shown, is_copy_ready, copy_shown, copy_place_shown, copy_over, carries_copy, may_take_copy}
use Rattle.flow_link.proofs.PlacesNamed.{place_set}
use Rattle.flow_block.proofs.SourceStands.{IsOut, shown_out, free_stage}
use Rattle.flow_block.proofs.PromisedStands.{promised_by}

-- The end of a link

own_link : (link : ℕ) (ends : List CopyEnd) (place : Option ℕ) → position (λ (end : CopyEnd). end.link.rule.id == link) ends ≡ place
    → unwrap_or place (length ends) < length ends → (end_in ends (unwrap_or place (length ends))).link.rule.id ≡ link
own_link link ends (Some k) at l =
    eqb-true (end_in ends k).link.rule.id link (position-Some (λ (end : CopyEnd). end.link.rule.id == link) ends k no_end at).1
own_link link ends None at l = absurd (omega arith)

own : (s : SpreadState) (link : ℕ) → place_of link s.ends < length s.ends → (link_at s (place_of link s.ends)).rule.id ≡ link
own s link l = own_link link s.ends (position (λ (end : CopyEnd). end.link.rule.id == link) s.ends) refl l

pub shown_there : (s : SpreadState) (k : ℕ) → k < length s.ends → copy_place_shown k s ≡ copy_shown (end_at s k) s
shown_there s k l = ap (λ (there : Bool). cond there (copy_shown (end_at s k) s) source.Refused) (lt-ltb k (length s.ends) l)

-- what shows that the end at a place is there
pub there_where : (s : SpreadState) (k : ℕ) (stage : SourceStage) → copy_place_shown k s ≡ stage → (source.Refused ≡ stage → ⊥) → k < length s.ends
there_where s k stage e some = at (ltb k (length s.ends)) refl
  where
    at : (b : Bool) → ltb k (length s.ends) ≡ b → k < length s.ends
    at true is = ltb-true k (length s.ends) is
    at false is = absurd (some (sym (ap (λ (b : Bool). cond b (copy_shown (end_at s k) s) source.Refused) is) ∙ e))

-- one end changes, and keeps its link
pub record Alone (k : ℕ) (old new : SpreadState) : Type 0 where
  pub count : length new.ends ≡ length old.ends
  pub places : (link : ℕ) → place_of link new.ends ≡ place_of link old.ends
  pub others : (j : ℕ) → j ≢ k → end_at new j ≡ end_at old j
  pub id : new.id ≡ old.id
  pub element : new.element ≡ old.element

pub alone_changed : (k : ℕ) (s : SpreadState) (end : CopyEnd) → end.link.rule.id ≡ (link_at s k).rule.id → Alone k s (changes k end s)
alone_changed k s end same = record {
  count = length-set s.ends k end;
  places = λ link.
      ap₂ unwrap_or
      (place_set (λ (e : CopyEnd). e.link.rule.id == link) s.ends k end no_end (ap (λ (id : ℕ). id == link) same)) (length-set s.ends k end);
  others = λ j apart. get_or-set_other s.ends k j end no_end apart;
  id = refl;
  element = refl;
}

pub alone_both : (k : ℕ) (a b c : SpreadState) → Alone k a b → Alone k b c → Alone k a c
alone_both k a b c first second = record {
  count = second.count ∙ first.count;
  places = λ link. second.places link ∙ first.places link;
  others = λ j apart. second.others j apart ∙ first.others j apart;
  id = second.id ∙ first.id;
  element = second.element ∙ first.element;
}

shown_same : (end : CopyEnd) (old new : SpreadState) → new.id ≡ old.id → new.element ≡ old.element → copy_shown end new ≡ copy_shown end old
shown_same end old new id element =
    ap₂ (λ (some : Bool) (n : ℕ). source_shown (some && is_some end.share && has_room end.link.rule.max end.link.given) n end.link.stage)
    (ap is_some element) id

module _ (k : ℕ) (old new : SpreadState) (alone : Alone k old new) (l : k < length old.ends) where
  pub copy_here : (link : ℕ) → place_of link old.ends ≡ k → copy_over new link ≡ copy_shown (end_at new k) new
  copy_here link at =
      ap (λ (n : ℕ). copy_place_shown n new) (alone.places link ∙ at)
      ∙ shown_there new k (let near : k < length new.ends = omega (arith, l, alone.count) in near)

  pub copy_elsewhere : (link other : ℕ) → place_of link old.ends ≡ k → other ≢ link → copy_over new other ≡ copy_over old other
  copy_elsewhere link other at apart =
      ap (λ (n : ℕ). copy_place_shown n new) (alone.places other) ∙ by (place_of other old.ends) refl (ltb (place_of other old.ends) (length old.ends)) refl
    where
      known : place_of link old.ends < length old.ends
      known = subst (λ (n : ℕ). n < length old.ends) (sym at) l

      by : (j : ℕ) → place_of other old.ends ≡ j → (b : Bool) → ltb j (length old.ends) ≡ b → copy_place_shown j new ≡ copy_place_shown j old
      by j is true there =
          let near : j < length old.ends = ltb-true j (length old.ends) there in
          let far : j ≢ k = λ one.
          let mine : (link_at old j).rule.id ≡ other = subst (λ (n : ℕ). (link_at old n).rule.id ≡ other) is
          (own old other (subst (λ (n : ℕ). n < length old.ends) (sym is) near)) in
          let its : (link_at old k).rule.id ≡ link = subst (λ (n : ℕ). (link_at old n).rule.id ≡ link) at (own old link known) in
          apart (sym mine ∙ ap (λ (n : ℕ). (link_at old n).rule.id) one ∙ its) in
          shown_there new j (let more : j < length new.ends = omega (arith, near, alone.count) in more)
          ∙ ap (λ (end : CopyEnd). copy_shown end new) (alone.others j far)
          ∙ shown_same (end_at old j) old new alone.id alone.element
          ∙ sym (shown_there old j near)
      by j is false there =
          ap (λ (n : ℕ). cond (ltb j n) (copy_shown (end_at new j) new) source.Refused) alone.count
          ∙ ap (λ (b : Bool). cond b (copy_shown (end_at new j) new) source.Refused) there
          ∙ sym (ap (λ (b : Bool). cond b (copy_shown (end_at old j) old) source.Refused) there)

-- The answer to an offer

module _ (s : SpreadState) (link header : ℕ) (asked : copy_over s link ≡ source.Out header) where
  abbrev asked_at : ℕ
  asked_at = place_of link s.ends

  asked_known : asked_at < length s.ends
  asked_known = there_where s asked_at (source.Out header) asked (λ e. cc)

  asked_out : IsOut (is_copy_ready s (end_at s asked_at)) s.id header (stage_at s asked_at) (source.Out header)
  asked_out = shown_out (is_copy_ready s (end_at s asked_at)) s.id header (stage_at s asked_at) (sym (shown_there s asked_at asked_known) ∙ asked)

  -- what the call of the spread asks for
  pub is_asked : IsAsked link header s
  is_asked = record { known = asked_known; unanswered = asked_out.stage_is }

  abbrev answered_end : MessageStatus → CopyEnd
  answered_end how =
      moved (answered_link how header (link_at s asked_at)) (still_owes how s.once (end_at s asked_at).owes) (end_at s asked_at)

  shown_answered : (how : MessageStatus) → copy_shown (answered_end how) (answered how header asked_at s) ≡ stage_answered how header
  shown_answered status.Accepted = ap₂ (λ (r b : Bool). cond (r && b) (source.Accepted header) source.Crossing) asked_out.ready_is asked_out.head
  shown_answered status.Postponed = ap (λ (b : Bool). cond b (source.Waiting header) source.Free) asked_out.head
  shown_answered status.Declined = refl
  shown_answered status.NotAvailable = refl
  shown_answered status.DecliningPermanently = refl

  pub copy_answer_moves : (how : MessageStatus) → MovesTo (stage_answered how header) link (copy_over s) (copy_over (answered how header asked_at s))
  copy_answer_moves how =
      let new = answered how header asked_at s in
      let alone : Alone asked_at s new = alone_changed asked_at s (answered_end how) refl in
      record {
        here = copy_here asked_at s new alone asked_known link refl
            ∙ ap (λ (end : CopyEnd). copy_shown end new) (get_or-set_same s.ends asked_at (answered_end how) no_end asked_known)
            ∙ shown_answered how;
        elsewhere = λ other apart. copy_elsewhere asked_at s new alone asked_known link other refl apart;
      }

-- The next offer

pub carries_copy_is : (ends : List CopyEnd) (k : ℕ) (end : CopyEnd) → end ≡ end_in ends k → (at room : Bool)
    → at ≡ (place_of end.link.rule.id ends == k) → room ≡ has_room end.link.rule.max end.link.given → (at && room) ≡ carries_copy k ends
carries_copy_is ends k end read at room at_is room_is =
    ap₂ (λ (a r : Bool). a && r) at_is room_is
    ∙ ap (λ (e : CopyEnd). place_of e.link.rule.id ends == k && has_room e.link.rule.max e.link.given) read

-- an end that may be offered the element is free, and the element is there
record MayBeOffered (some free : Bool) : Type 0 where
  pub element : some ≡ true
  pub rests : free ≡ true

offered_where : (some owes free other : Bool) → (some && (owes && free && other)) ≡ true → MayBeOffered some free
offered_where true true true other e = record { element = refl; rests = refl }
offered_where true true false other e = absurd (cc)
offered_where true false free other e = absurd (cc)
offered_where false owes free other e = absurd (cc)

all_three : (a b c : Bool) → a ≡ true → b ≡ true → c ≡ true → (a && b && c) ≡ true
all_three a b c p q r = rw (p, q, r) refl

module _ (s : SpreadState) (k : ℕ) (next : Next s k) (carried : carries_copy k s.ends ≡ true) where
  abbrev offered_link : ℕ
  offered_link = (link_at s k).rule.id

  parts : ((place_of offered_link s.ends == k) ≡ true) × (has_room (link_at s k).rule.max (link_at s k).given ≡ true)
  parts = and_parts (place_of offered_link s.ends == k) (has_room (link_at s k).rule.max (link_at s k).given) carried

  link_at_k : place_of offered_link s.ends ≡ k
  link_at_k = eqb-true (place_of offered_link s.ends) k parts.0

  may_now : MayBeOffered (is_some s.element) (is_free (stage_at s k))
  may_now = offered_where (is_some s.element) (end_at s k).owes (is_free (stage_at s k)) (not ((link_at s k).declined == s.id)) next.may

  abbrev ready_end : CopyEnd
  ready_end = record (end_at s k) { share = s.element }

  abbrev ready : SpreadState
  ready = prepares k s

  abbrev out_end : CopyEnd
  out_end = moved (record (link_at ready k) { stage = source.Out s.id }) (end_at ready k).owes (end_at ready k)

  abbrev out : SpreadState
  out = offers k ready

  alone_out : Alone k s out
  alone_out = alone_both k s ready out (alone_changed k s ready_end refl) (alone_changed k ready out_end refl)

  ready_is : end_at ready k ≡ ready_end
  ready_is = get_or-set_same s.ends k ready_end no_end next.there

  out_is : end_at out k ≡ moved (record (link_at s k) { stage = source.Out s.id }) (end_at s k).owes ready_end
  out_is =
      let near : k < length ready.ends = omega (arith, next.there, length-set s.ends k ready_end) in
      get_or-set_same ready.ends k out_end no_end near
      ∙ ap (λ (end : CopyEnd). moved (record end.link { stage = source.Out s.id }) end.owes end) ready_is

  shown_offered : copy_shown (end_at out k) out ≡ source.Out s.id
  shown_offered =
      let can : (is_some s.element && is_some s.element && has_room (link_at s k).rule.max (link_at s k).given) ≡ true =
      all_three (is_some s.element) (is_some s.element) (has_room (link_at s k).rule.max (link_at s k).given)
      may_now.element may_now.element parts.1 in
      ap (λ (end : CopyEnd). copy_shown end out) out_is
      ∙ ap₂ (λ (r b : Bool). cond (r && b) (source.Out s.id) source.Crossing) can (eq-eqb s.id s.id refl)

  shown_free : copy_over s offered_link ≡ source.Free
  shown_free =
      ap (λ (n : ℕ). copy_place_shown n s) link_at_k
      ∙ shown_there s k next.there
      ∙ ap (λ (stage : SourceStage). source_shown (is_copy_ready s (end_at s k)) s.id stage) (free_stage (stage_at s k) may_now.rests)

  pub copy_offer_moves : MovesBy (GoesOut s.id) offered_link (copy_over s) (copy_over out)
  copy_offer_moves = record {
    here = subst (λ (stage : SourceStage). GoesOut s.id stage (copy_over out offered_link)) (sym shown_free)
        (copy_here k s out alone_out next.there offered_link link_at_k ∙ shown_offered);
    elsewhere = λ other apart. copy_elsewhere k s out alone_out next.there offered_link other link_at_k apart;
  }

-- A copy that is given

stays_so : (header : ℕ) (stage : SourceStage) → StaysOrForgets header stage stage
stays_so header (source.Waiting i) = inl refl
stays_so header source.Free = refl
stays_so header (source.Posted _) = refl
stays_so header (source.Out _) = refl
stays_so header (source.Accepted _) = refl
stays_so header (source.Wished _) = refl
stays_so header (source.AskedBy _) = refl
stays_so header (source.Reserved _) = refl
stays_so header (source.Claimed _) = refl
stays_so header source.Crossing = refl
stays_so header source.Refused = refl
stays_so header (source.Ended _) = refl

module _ (s : SpreadState) (k header : ℕ) (l : k < length s.ends) where
  abbrev wanted_stage : SourceStage
  wanted_stage = source_looks (stage_at s k) (Wanted header)

  abbrev wanted : SpreadState
  wanted = looks k (Wanted header) s

  abbrev given : SpreadState
  given = gives k wanted

  abbrev home : SpreadState
  home = looks k Idle given

  abbrev wanted_end : CopyEnd
  wanted_end =
      moved (record (link_at s k) { stage = wanted_stage }) ((end_at s k).owes && not (is_answer s.once wanted_stage)) (end_at s k)

  abbrev given_copy : CopyEnd
  given_copy = moved (given_end wanted.id (link_at wanted k)) false (end_at wanted k)

  abbrev home_stage : SourceStage
  home_stage = source_looks (stage_at given k) Idle

  abbrev home_end : CopyEnd
  home_end =
      moved (record (link_at given k) { stage = home_stage }) ((end_at given k).owes && not (is_answer given.once home_stage)) (end_at given k)

  alone_home : Alone k s home
  alone_home =
      alone_both k s given home
      (alone_both k s wanted given (alone_changed k s wanted_end refl) (alone_changed k wanted given_copy refl))
      (alone_changed k given home_end refl)

  home_free : stage_at home k ≡ source.Free
  home_free =
      let near : k < length wanted.ends = omega (arith, l, length-set s.ends k wanted_end) in
      let nearer : k < length given.ends = omega (arith, near, length-set wanted.ends k given_copy) in
      let crossing : stage_at given k ≡ source.Crossing =
      ap (λ (end : CopyEnd). end.link.stage) (get_or-set_same wanted.ends k given_copy no_end near) in
      ap (λ (end : CopyEnd). end.link.stage) (get_or-set_same given.ends k home_end no_end nearer)
      ∙ ap (λ (stage : SourceStage). source_looks stage Idle) crossing

  pub copy_give_moves : (link : ℕ) → place_of link s.ends ≡ k → GivesOver link header (copy_over s) (copy_over home)
  copy_give_moves link at = record {
    here = copy_here k s home alone_home l link at
        ∙ ap (λ (stage : SourceStage). source_shown (is_copy_ready home (end_at home k)) home.id stage) home_free;
    elsewhere = λ other apart.
        subst (λ (stage : SourceStage). StaysOrForgets header (copy_over s other) stage)
        (sym (copy_elsewhere k s home alone_home l link other at apart)) (stays_so header (copy_over s other));
  }

-- What a link accepted it is given

pub taken_all : (some share room there is : Bool) → (some && share && room) ≡ true → there ≡ true → is ≡ true
    → (some && (there && (not is || share && room)) && is) ≡ true
taken_all true true true true true ready t i = refl
taken_all true true true true false ready t i = absurd (cc)
taken_all true true true false is ready t i = absurd (cc)
taken_all true true false there is ready t i = absurd (cc)
taken_all true false room there is ready t i = absurd (cc)
taken_all false share room there is ready t i = absurd (cc)

module _ (s : SpreadState) (link header : ℕ) (busy : Bool) (may : MayConsume header busy (copy_over s link)) where
  consumed_there : place_of link s.ends < length s.ends
  consumed_there = there_where s (place_of link s.ends) (copy_over s link) refl
      (λ gone. subst (λ (stage : SourceStage). MayConsume header busy stage) (sym gone) may)

  pub promised_copy : is_promised (copy_over s link) ≡ true → may_take_copy link header s ≡ true
  promised_copy promised =
      let k = place_of link s.ends in
      let end = end_at s k in
      let shown = shown_there s k consumed_there in
      let both = promised_by (is_copy_ready s end) busy s.id header end.link.stage
      (subst (λ (stage : SourceStage). MayConsume header busy stage) shown may) (ap is_promised (sym shown) ∙ promised) in
      let there : is_there k header s ≡ true = ap₂ (λ (a b : Bool). a && b) both.1.0 (both.1.1 false) in
      taken_all (is_some s.element) (is_some end.share) (has_room end.link.rule.max end.link.given) (ltb k (length s.ends))
      (is_there k header s) both.0 (lt-ltb k (length s.ends) consumed_there) there

  pub copy_consume_moves : GivesOver link header (copy_over s) (copy_over (gives_home (place_of link s.ends) header s))
  copy_consume_moves = copy_give_moves s (place_of link s.ends) header consumed_there link refl
