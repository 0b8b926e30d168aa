-- Each call of a port that names a link keeps the port in order.
use Rattle.std.proofs.Common.{◌≡◌, ℕ, ◌+◌, ◌<◌, ◌==◌, cond, Bool, true, false, List, [], ◌∷◌, length, Option, Some, None, is_some, refl, ap, sym, ◌∙◌, subst, unwrap_or, arith, eqb-true, length-append}
use Rattle.std.proofs.lemmas.List.Quantifiers.{position-Some}
use Rattle.flow_value.specs.declared.value.Value.{Value}
use Rattle.flow_value.specs.declared.message.MessageStatus.{MessageStatus}
use Rattle.flow_value.specs.declared.message.MessageStatus.TheVariants.{Accepted, Declined, Postponed, NotAvailable, DecliningPermanently}
use Rattle.flow_link.specs.declared.stage.TargetStage.{TargetStage}
use Rattle.flow_link.specs.declared.stage.TargetStage.TheVariants as stage
use Rattle.flow_link.specs.LinkOk.{MayPutOff}
use Rattle.flow_link.specs.Views.{LinkFacts}
use Rattle.flow_intake.specs.Port.{EndState, PortState, fresh_end, end_in, link_in, stage_at, is_coming, is_hand, is_queued, is_wanted}
use Rattle.flow_intake.specs.Calls.{answer_to, next_place, first_of, is_postponed, may_be_dropped, refused_by, consumes}
use Rattle.flow_intake.specs.ByLink.{place_of, with_link, with_link_at, place_in, stands, is_free, free_at, is_free_over, closes_link, answered, arrives_at, drops_at, consumes_at}
use Rattle.flow_intake.specs.PortLaw.{has_ended, AreBelow, PortLaw}
use Rattle.flow_intake.specs.PortKeeps.{CallsByLinkKeep}
use Rattle.flow_intake.proofs.AnswersTell.{accepted_has_room, accepted_is_open, declining_is_refusing, next_tells, room_with_link}
use Rattle.flow_intake.proofs.CallsKeepOrder.{free_is, postponed_is, droppable_not_in_hand, accept_keeps, put_off_keeps, consume_keeps, leave_keeps, take_keeps, add_link_keeps, last_read, refused_is, fits_no_more}
use Rattle.flow_intake.proofs.EndsInOrder.{port_stays}

-- the link's end in the port that has one
record HasLink (facts : ℕ → LinkFacts) (taken link place : ℕ) (port : PortState) : Type 0 where
  pub law : PortLaw facts taken port
  pub there : place < length port.ends
  pub same : link_in place port.ends ≡ link
  pub free : is_free (stage_at place port) ≡ true

found : (link : ℕ) (ends : List EndState) (place : ℕ) → place_of link ends ≡ Some place → (place < length ends) × (link_in place ends ≡ link)
found link ends place at =
    let first = position-Some (λ end. end.link == link) ends place (fresh_end 0) at in
    (first.0, eqb-true (link_in place ends) link first.1)

has_link_at : (facts : ℕ → LinkFacts) (taken link : ℕ) (port : PortState) → PortLaw facts taken port → (place : Option ℕ) → place_of link port.ends ≡ place
    → free_at place port ≡ true → HasLink facts taken link (unwrap_or place (length port.ends)) (with_link_at place link port)
has_link_at facts taken link port law (Some place) at free = let there = found link port.ends place at in record { law = law; there = there.0; same = there.1; free = free }
has_link_at facts taken link port law None at free = record {
  law = add_link_keeps facts taken port link law;
  there = rw (length-append port.ends (fresh_end link ∷ [])) (omega arith);
  same = ap (λ (end : EndState). end.link) (last_read port.ends (fresh_end link));
  free = ap (λ (end : EndState). is_free end.stage) (last_read port.ends (fresh_end link));
}

has_link : (facts : ℕ → LinkFacts) (taken link : ℕ) (port : PortState) → PortLaw facts taken port → is_free_over link port ≡ true
    → HasLink facts taken link (place_in link port) (with_link link port)
has_link facts taken link port law free = has_link_at facts taken link port law (place_of link port.ends) refl free

with_link_refuses : (place : Option ℕ) (link : ℕ) (port : PortState) → (with_link_at place link port).refusing ≡ port.refusing
with_link_refuses (Some _) link port = refl
with_link_refuses None link port = refl

close_keeps : (facts : ℕ → LinkFacts) (taken link : ℕ) (port : PortState) → PortLaw facts taken port → (place : Option ℕ) → place_of link port.ends ≡ place
    → free_at place port ≡ true → is_some port.refusing ≡ true → PortLaw facts taken (closes_link place port)
close_keeps facts taken link port law None at free refusing = law
close_keeps facts taken link port law (Some place) at free refusing =
    let there = found link port.ends place at in
    let before = free_is (stage_at place port) free in
    let after = refused_is port.refusing in
    port_stays facts taken port place (refused_by port.refusing) port.ready law there.0 (after.queued ∙ sym before.queued) (after.hand ∙ sym before.hand)
    (λ e. refusing) (λ e. let none = after.coming in absurd (cc)) (λ e. let none = after.put_off in absurd (cc))
    (fits_no_more facts taken port place (record (end_in place port.ends) { stage = refused_by port.refusing }) law there.0 (λ e. let none = after.coming in absurd (cc)))

answer_keeps : (facts : ℕ → LinkFacts) (taken : ℕ) (port : PortState) (link i : ℕ) (may_postpone : Bool) → PortLaw facts taken port → is_free_over link port ≡ true
    → (answer_to may_postpone port ≡ Postponed → MayPutOff (facts link) taken)
    → (status : MessageStatus) → answer_to may_postpone port ≡ status → PortLaw facts taken (answered link i status port)
answer_keeps facts taken port link i may_postpone law free may Accepted is =
    let has = has_link facts taken link port law free in
    accept_keeps facts taken (with_link link port) (place_in link port) i has.law has.there (free_is (stage_at (place_in link port) (with_link link port)) has.free)
    (room_with_link link port ∙ accepted_has_room may_postpone port is)
    (ap has_ended (with_link_refuses (place_of link port.ends) link port) ∙ accepted_is_open may_postpone port is)
answer_keeps facts taken port link i may_postpone law free may Postponed is =
    let has = has_link facts taken link port law free in
    put_off_keeps facts taken (with_link link port) (place_in link port) i has.law has.there (free_is (stage_at (place_in link port) (with_link link port)) has.free)
    (subst (λ (l : ℕ). MayPutOff (facts l) taken) (sym has.same) (may is))
answer_keeps facts taken port link i may_postpone law free may DecliningPermanently is =
    close_keeps facts taken link port law (place_of link port.ends) refl free (declining_is_refusing may_postpone port is)
answer_keeps facts taken port link i may_postpone law free may Declined is = law
answer_keeps facts taken port link i may_postpone law free may NotAvailable is = law

-- a message that is wanted comes, and is not in hand
record IsComing (s : TargetStage) : Type 0 where
  pub queued : is_queued s ≡ false
  pub coming : is_coming s ≡ true
  pub hand : is_hand s ≡ false

wanted_is : (s : TargetStage) → is_wanted s ≡ true → IsComing s
wanted_is (stage.Accepted i) e = record { queued = refl; coming = refl; hand = refl }
wanted_is (stage.Consuming i) e = record { queued = refl; coming = refl; hand = refl }
wanted_is (stage.Claiming i) e = record { queued = refl; coming = refl; hand = refl }
wanted_is s e = absurd (cc)

no_hand : (hand : Option Value) → is_some hand ≡ false → hand ≡ None
no_hand None e = refl
no_hand (Some _) e = absurd (cc)

arrive_keeps : (facts : ℕ → LinkFacts) (taken link : ℕ) (port : PortState) (value : Value) → PortLaw facts taken port → (place : Option ℕ) → place_of link port.ends ≡ place
    → stands is_wanted place port ≡ true → PortLaw facts (taken + 1) (arrives_at place value port)
arrive_keeps facts taken link port value law None at wanted = absurd (cc)
arrive_keeps facts taken link port value law (Some place) at wanted =
    let there = found link port.ends place at in
    let before = wanted_is (stage_at place port) wanted in
    take_keeps facts taken port place (record (end_in place port.ends) { stage = stage.Free }) value law there.0 before.coming before.queued refl refl
    (no_hand (end_in place port.ends).hand ((law.each place there.0).hand ∙ before.hand))

drop_keeps : (facts : ℕ → LinkFacts) (taken link : ℕ) (port : PortState) → PortLaw facts taken port → (place : Option ℕ) → place_of link port.ends ≡ place
    → stands may_be_dropped place port ≡ true → PortLaw facts taken (drops_at place port)
drop_keeps facts taken link port law None at dropped = absurd (cc)
drop_keeps facts taken link port law (Some place) at dropped =
    let there = found link port.ends place at in
    leave_keeps facts taken port place stage.Free law there.0 (record { queued = refl; coming = refl; hand = refl; put_off = refl })
    (droppable_not_in_hand (stage_at place port) dropped) (λ e. absurd (cc))

first_below : (count : ℕ) (queue : List ℕ) (first : ℕ) → AreBelow count queue → first_of queue ≡ Some first → first < count
first_below count [] first known is = absurd (cc)
first_below count (x ∷ queue) first known is = let same : x ≡ first = cc in subst (λ (n : ℕ). n < count) same known.0

next_keeps : (facts : ℕ → LinkFacts) (taken : ℕ) (port : PortState) → PortLaw facts taken port → (place : Option ℕ) → next_place port ≡ place
    → PortLaw facts taken (consumes_at place port)
next_keeps facts taken port law None at = law
next_keeps facts taken port law (Some place) at = here (is_postponed (stage_at place port)) refl
  where
    here : (b : Bool) → is_postponed (stage_at place port) ≡ b → PortLaw facts taken (cond b (consumes place port) port)
    here false is = law
    here true is =
        let tells = next_tells port place at in
        consume_keeps facts taken port place law (first_below (length port.ends) port.queue place law.known tells.first) (postponed_is (stage_at place port) is) tells.room tells.going

pub calls_by_link_keep : CallsByLinkKeep
calls_by_link_keep = record {
  answer = λ facts taken port law link i may_postpone free may.
      answer_keeps facts taken port link i may_postpone law free may (answer_to may_postpone port) refl;
  arrive = λ facts taken port law link value wanted. arrive_keeps facts taken link port value law (place_of link port.ends) refl wanted;
  next_postponed = λ facts taken port law. next_keeps facts taken port law (next_place port) refl;
  drop_postponed = λ facts taken port law link dropped. drop_keeps facts taken link port law (place_of link port.ends) refl dropped;
}
