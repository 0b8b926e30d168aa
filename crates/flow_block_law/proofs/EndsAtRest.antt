-- What ends at rest tell: what is away there only waits, and nothing comes.
use Rattle.std.proofs.Common.{◌≡◌, ℕ, suc, ◌+◌, ◌<◌, Bool, true, false, cond, not, ◌==◌, ◌||◌, List, [], ◌∷◌, length, Option, Some, None, refl, ap, ap₂, sym, subst, ◌∙◌, arith, eq-eqb}
use Rattle.std.proofs.lemmas.Bool.{or_left, false_from_ne_true}
use Rattle.flow_link.specs.declared.phase.LinkEnd.{LinkEnd}
use Rattle.flow_link.specs.declared.phase.Move.{Move}
use Rattle.flow_link.specs.declared.phase.Move.TheVariants as move
use Rattle.flow_link.specs.declared.stage.Refusal.{Refusal}
use Rattle.flow_link.specs.declared.stage.SourceStage.{SourceStage}
use Rattle.flow_link.specs.declared.stage.SourceStage.TheVariants as source
use Rattle.flow_link.specs.declared.stage.TargetStage.{TargetStage}
use Rattle.flow_link.specs.declared.stage.TargetStage.TheVariants as target
use Rattle.flow_link.specs.declared.trace.Outcome.{Outcome}
use Rattle.flow_lawful.specs.RestsByParts.{is_over as is_view_over}
use Rattle.flow_link.specs.Stage.{source_stage_of}
use Rattle.flow_link.specs.Views.{LinkFacts}
use Rattle.flow_link.proofs.ListTests.{never_both}
use Rattle.flow_link.proofs.LinksLaidOut.{none_step}
use Rattle.flow_intake.specs.Calls.{is_postponed, in_move, next_place, is_at as is_place, move_at as move_in}
use Rattle.flow_intake.specs.Port.{PortState, stage_at as port_stage, is_coming, is_queued, has_room}
use Rattle.flow_intake.specs.PortLaw.{PortLaw, AreBelow, is_in}
use Rattle.flow_intake.proofs.ProfileHolds.{oldest_first}
use Rattle.flow_outlet.specs.End.{end_in, is_free, is_over, is_spoken_for, is_away, is_waiting, is_cut, speaks_of, count_at}
use Rattle.flow_outlet.specs.Outlet.{OutletState, may_offer, end_of, is_at, free_move, move_at}
use Rattle.flow_outlet.specs.declared.ends.OutEnd.{OutEnd}
use Rattle.flow_block_law.specs.NodeRests.{rests_in}
use Rattle.flow_link.specs.Stage.{rests_out}

-- Ends out

pub rests_away : (stage : SourceStage) → rests_out stage ≡ true → is_away stage ≡ is_waiting stage
rests_away source.Free e = refl
rests_away (source.Waiting i) e = refl
rests_away source.Refused e = refl
rests_away (source.Ended how) e = refl
rests_away _ e = absurd (cc)

pub not_spoken_for : (stage : SourceStage) → rests_out stage ≡ true → is_spoken_for stage ≡ false
not_spoken_for (source.Out i) e = absurd (cc)
not_spoken_for (source.Accepted i) e = absurd (cc)
not_spoken_for (source.Reserved i) e = absurd (cc)
not_spoken_for (source.Claimed i) e = absurd (cc)
not_spoken_for _ e = refl

pub must_wait : (stage : SourceStage) → rests_out stage ≡ true → is_free stage ≡ false → is_over stage ≡ false
    → is_waiting stage ≡ true
must_wait (source.Waiting i) rest busy going = refl
must_wait source.Free rest busy going = absurd (cc)
must_wait source.Refused rest busy going = absurd (cc)
must_wait (source.Ended how) rest busy going = absurd (cc)
must_wait _ rest busy going = absurd (cc)

pub over_unless : (stage : SourceStage) → rests_out stage ≡ true → (stage ≡ source.Free → ⊥)
    → (is_waiting stage ≡ true → ⊥)
    → is_view_over (source_stage_of stage) ≡ true
over_unless source.Free rest busy gone = absurd (busy refl)
over_unless (source.Waiting i) rest busy gone = absurd (gone refl)
over_unless source.Refused rest busy gone = refl
over_unless (source.Ended how) rest busy gone = refl
over_unless _ rest busy gone = absurd (cc)

each_away : (ends : List OutEnd) → ((k : ℕ) → k < length ends → rests_out (end_in ends k).stage ≡ true)
    → count_at is_away ends ≡ count_at is_waiting ends
each_away [] h = refl
each_away (end ∷ ends) h =
    ap₂ (λ (b : Bool) (n : ℕ). cond b 1 0 + n) (rests_away end.stage (h 0 (omega arith)))
    (each_away ends (λ k small. h (suc k) (omega arith)))

pub away_waits : (ends : List OutEnd) → ((k : ℕ) → k < length ends → rests_out (end_in ends k).stage ≡ true)
    → (count_at is_away ends == count_at is_waiting ends) ≡ true
away_waits ends h = eq-eqb (count_at is_away ends) (count_at is_waiting ends) (each_away ends h)

count_none : (test : SourceStage → Bool) (ends : List OutEnd)
    → ((k : ℕ) → k < length ends → test (end_in ends k).stage ≡ false)
    → count_at test ends ≡ 0
count_none test [] h = refl
count_none test (end ∷ ends) h =
    ap₂ (λ (b : Bool) (n : ℕ). cond b 1 0 + n) (h 0 (omega arith))
    (count_none test ends (λ k small. h (suc k) (omega arith)))

pub none_away : (ends : List OutEnd) → ((k : ℕ) → k < length ends → rests_out (end_in ends k).stage ≡ true)
    → ((k : ℕ) → k < length ends → is_waiting (end_in ends k).stage ≡ false) → (count_at is_away ends == 0) ≡ true
none_away ends h none = eq-eqb (count_at is_away ends) 0 (each_away ends h ∙ count_none is_waiting ends none)

-- An end out that has no move

-- what waits and is not withdrawn is the head, which is not to be offered anew, and nothing is held up by it
pub record StaysPut (held_up renewing head : Bool) : Type 0 where
  pub not_held_up : held_up ≡ false
  pub not_renewed : renewing ≡ false
  pub is_head : head ≡ true

stays_put : (held_up renewing head : Bool) → cond (held_up || renewing || not head) (Some move.Withdraw) None ≡ None
    → StaysPut held_up renewing head
stays_put true renewing head e = absurd (cc)
stays_put false true head e = absurd (cc)
stays_put false false true e = record { not_held_up = refl; not_renewed = refl; is_head = refl }
stays_put false false false e = absurd (cc)

pub waiting_stays : (o : OutletState) (k : ℕ) (stopped : Option Outcome) (held_up : Bool) (stage : SourceStage)
    → is_waiting stage ≡ true
    → move_at o k stopped held_up stage ≡ None → StaysPut held_up o.renewing (speaks_of o.next stage)
waiting_stays o k stopped held_up (source.Waiting i) e none = stays_put held_up o.renewing (i == o.next) none
waiting_stays o k stopped held_up _ e none = absurd (cc)

pub free_stays : (o : OutletState) (k : ℕ) (how : Option LinkEnd) → free_move o k how ≡ None
    → (how ≡ None) × (is_at (may_offer o) k ≡ false)
free_stays o k (Some how) e = absurd (cc)
free_stays o k None e = (refl, (none_step (is_at (may_offer o) k) (move.Offer o.next) None e).0)

pub not_cut : (end : OutEnd) (stopped : Option Outcome) → end_of end stopped ≡ None → is_cut end ≡ false
not_cut end stopped e = (none_step (is_cut end) _ _ e).0

pub not_stopped : (end : OutEnd) (stopped : Option Outcome) → end_of end stopped ≡ None → stopped ≡ None
not_stopped end None e = refl
not_stopped end (Some how) e = let none = (none_step (is_cut end) _ _ e).1 in absurd (cc)

-- Ends in

pub not_coming : (stage : TargetStage) → rests_in stage ≡ true → is_coming stage ≡ false
not_coming target.Free e = refl
not_coming (target.Postponed i) e = refl
not_coming (target.Refused why) e = refl
not_coming (target.Ended how) e = refl
not_coming _ e = absurd (cc)

-- A port at which an offer waits

unrefused : (refusing : Option Refusal) (consumes : Option Move)
    → elim refusing as (λ _. Option Move) [ Some _ ↦ Some move.Refuse | None ↦ consumes ] ≡ None
    → (refusing ≡ None) × (consumes ≡ None)
unrefused None consumes e = (refl, e)
unrefused (Some why) consumes e = absurd (cc)

pub waiting_queue : (place : ℕ) (port : PortState) (stage : TargetStage) → is_postponed stage ≡ true
    → move_in place port stage ≡ None
    → (port.refusing ≡ None) × (is_place place (next_place port) ≡ false)
waiting_queue place port (target.Postponed i) e none =
    let both = unrefused port.refusing (cond (is_place place (next_place port)) (Some move.Consume) None) none in
    (both.0, (none_step (is_place place (next_place port)) move.Consume None both.1).0)
waiting_queue place port _ e none = absurd (cc)

queued_where : (stage : TargetStage) → is_postponed stage ≡ true → is_queued stage ≡ true
queued_where (target.Postponed i) e = refl
queued_where _ e = absurd (cc)

postponed_where : (stage : TargetStage) → is_queued stage ≡ true → rests_in stage ≡ true → is_postponed stage ≡ true
postponed_where (target.Postponed i) queued rest = refl
postponed_where (target.Asking i) queued rest = absurd (cc)
postponed_where (target.Holding i) queued rest = absurd (cc)
postponed_where _ queued rest = absurd (cc)

record HasFirst (queue : List ℕ) : Type 0 where
  place : ℕ
  others : List ℕ
  parts : queue ≡ place ∷ others

has_first : (queue : List ℕ) (k : ℕ) → is_in k queue ≡ true → HasFirst queue
has_first [] k e = absurd (cc)
has_first (place ∷ others) k e = record { place = place; others = others; parts = refl }

-- an offer waits only where there is no room
pub no_room_where : (facts : ℕ → LinkFacts) (taken : ℕ) (port : PortState) (k : ℕ) → PortLaw facts taken port
    → port.reserves ≡ false
    → ((j : ℕ) → j < length port.ends → rests_in (port_stage j port) ≡ true)
    → ((j : ℕ) → j < length port.ends → in_move j port ≡ None)
    → k < length port.ends → is_postponed (port_stage k port) ≡ true → has_room port ≡ false
no_room_where facts taken port k law freely rest none small waits = false_from_ne_true (has_room port) (λ room.
    let queued : is_in k port.queue ≡ true = (law.each k small).queued ∙ queued_where (port_stage k port) waits in
    let first = has_first port.queue k queued in
    let going = (waiting_queue k port (port_stage k port) waits (none k small)).0 in
    let next : next_place port ≡ Some first.place =
    oldest_first.served port first.place first.others
    (record { goes_on = going; freely = freely; room = room }) first.parts in
    let known : AreBelow (length port.ends) (first.place ∷ first.others) =
    subst (AreBelow (length port.ends)) first.parts law.known in
    let there : is_in first.place port.queue ≡ true =
    ap (is_in first.place) first.parts
    ∙ or_left (first.place == first.place) _ (eq-eqb first.place first.place refl) in
    let stage = port_stage first.place port in
    let postponed =
    postponed_where stage (sym (law.each first.place known.0).queued ∙ there) (rest first.place known.0) in
    let elsewhere = (waiting_queue first.place port stage postponed (none first.place known.0)).1 in
    never_both (is_place first.place (next_place port))
    (ap (is_place first.place) next ∙ eq-eqb first.place first.place refl) elsewhere)
