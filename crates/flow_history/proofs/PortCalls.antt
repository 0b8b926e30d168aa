-- Each call that names a link keeps a port in order, whatever is known of its links.
use Rattle.std.proofs.Common.{◌≡◌, ℕ, ◌+◌, ◌-◌, ◌<◌, ◌≤◌, Bool, true, cond, List, length, Option, Some, None, is_some, refl, ap, sym, subst, ◌∙◌, arith}
use Rattle.flow_value.specs.declared.value.Value.{Value}
use Rattle.flow_link.specs.declared.phase.Phase.TheVariants.{Held}
use Rattle.flow_link.specs.declared.stage.Refusal.{Refusal}
use Rattle.flow_link.specs.declared.stage.TargetStage.{TargetStage}
use Rattle.flow_link.specs.declared.stage.TargetStage.TheVariants as target
use Rattle.flow_link.specs.declared.traits.WishAnswer.{WishAnswer}
use Rattle.flow_link.specs.declared.traits.WishAnswer.TheVariants as answer
use Rattle.flow_link.specs.LinkOk.{MayPutOff}
use Rattle.flow_link.specs.Stage.{target_looks}
use Rattle.flow_link.specs.TargetCalls.{Wants, MayNote, stage_noted}
use Rattle.flow_intake.specs.Port.{PortState, stage_at, is_wanted, is_coming}
use Rattle.flow_intake.specs.PortLaw.{PortLaw}
use Rattle.flow_intake.specs.Calls.{answer_to, refused_by, put_stage, queue_after, may_be_dropped, looks, gives_room}
use Rattle.flow_intake.specs.ByLink.{place_of, is_free, free_at, stands, answered, arrives, drops, consumes_next}
use Rattle.flow_intake.proofs.CallsByLinkKeepOrder.{calls_by_link_keep}
use Rattle.flow_intake.proofs.CallsKeepOrder.{moves_keep}
use Rattle.flow_block.specs.Traits.{port_shown, shown_over, holds_at, notes}
use Rattle.flow_block.proofs.TargetStands.{found, not_noted}
use Rattle.flow_history.specs.Kept.{any_link}

pub may_put_off : (taken link : ℕ) → MayPutOff (any_link link) taken
may_put_off taken link = record { not_steady = refl; not_the_first = λ e. absurd (cc) }

-- An offer is answered

free_shown : (port : PortState) (place : Option ℕ) → port_shown place port ≡ target.Free → free_at place port ≡ true
free_shown port None free = refl
free_shown port (Some k) free = ap is_free free

pub answer_keeps : (taken link header : ℕ) (may_postpone : Bool) (port : PortState) → shown_over port link ≡ target.Free
    → PortLaw any_link taken port → PortLaw any_link taken (answered link header (answer_to may_postpone port) port)
answer_keeps taken link header may_postpone port free law =
    calls_by_link_keep.answer any_link taken port law link header may_postpone (free_shown port (place_of link port.ends) free)
    (λ e. may_put_off taken link)

-- A message comes

wanted_stage : (header : ℕ) (stage : TargetStage) → Wants header stage → is_wanted stage ≡ true
wanted_stage header (target.Accepted _) wants = refl
wanted_stage header (target.Consuming _) wants = refl
wanted_stage header (target.Claiming _) wants = refl
wanted_stage header target.Free wants = absurd wants
wanted_stage header (target.Offered _) wants = absurd wants
wanted_stage header (target.Posted _) wants = absurd wants
wanted_stage header (target.Postponed _) wants = absurd wants
wanted_stage header (target.Asking _) wants = absurd wants
wanted_stage header (target.Holding _) wants = absurd wants
wanted_stage header (target.Arrived _) wants = absurd wants
wanted_stage header (target.Hand _) wants = absurd wants
wanted_stage header (target.Refused _) wants = absurd wants
wanted_stage header (target.Ended _) wants = absurd wants

none_wanted : (header : ℕ) (refusing : Option Refusal) → Wants header (refused_by refusing) → ⊥
none_wanted header None wants = wants
none_wanted header (Some _) wants = wants

wanted_comes : (stage : TargetStage) → is_wanted stage ≡ true → is_coming stage ≡ true
wanted_comes (target.Accepted _) e = refl
wanted_comes (target.Consuming _) e = refl
wanted_comes (target.Claiming _) e = refl
wanted_comes _ e = absurd (cc)

-- where a message is wanted, there is an end of its link, over which it comes
pub record WantedAt (link : ℕ) (port : PortState) : Type 0 where
  pub place : ℕ
  pub known : place_of link port.ends ≡ Some place
  pub there : place < length port.ends
  pub stands : is_wanted (stage_at place port) ≡ true
  pub comes : is_coming (stage_at place port) ≡ true

wanted_where : (header link : ℕ) (port : PortState) (place : Option ℕ) → place_of link port.ends ≡ place
    → Wants header (port_shown place port) → WantedAt link port
wanted_where header link port None at wants = absurd (none_wanted header port.refusing wants)
wanted_where header link port (Some k) at wants =
    let is = wanted_stage header (stage_at k port) wants in
    record { place = k; known = at; there = (found link port.ends k at).0; stands = is; comes = wanted_comes (stage_at k port) is }

pub wanted_at : (header link : ℕ) (port : PortState) → Wants header (shown_over port link) → WantedAt link port
wanted_at header link port wants = wanted_where header link port (place_of link port.ends) refl wants

pub arrive_keeps : (taken header link : ℕ) (value : Value) (port : PortState) → Wants header (shown_over port link)
    → PortLaw any_link taken port → PortLaw any_link (taken + 1) (arrives link value port)
arrive_keeps taken header link value port wants law =
    let at = wanted_at header link port wants in
    calls_by_link_keep.arrive any_link taken port law link value (ap (λ (place : Option ℕ). stands is_wanted place port) at.known ∙ at.stands)

-- A wish is made, and answered

pub wish_keeps : (taken : ℕ) (port : PortState) → PortLaw any_link taken port → PortLaw any_link taken (consumes_next port)
wish_keeps taken port law = calls_by_link_keep.next_postponed any_link taken port law

held_is : (port : PortState) (k : ℕ) (stage : TargetStage) → stage_at k port ≡ stage → MayNote answer.Held stage
    → (i : ℕ) × (holds_at (Some k) port ≡ looks k (Held i) port)
held_is port k (target.Asking i) at may = (
  i,
  ap (λ (s : TargetStage). record port { ends = put_stage k (stage_noted answer.Held s) port.ends }) at
      ∙ sym (ap (λ (s : TargetStage). record port {
        ends = put_stage k (target_looks s (Held i)) port.ends;
        queue = queue_after (target_looks s (Held i)) k port.queue;
      }) at),
)
held_is port k target.Free at may = absurd may
held_is port k (target.Offered _) at may = absurd may
held_is port k (target.Posted _) at may = absurd may
held_is port k (target.Postponed _) at may = absurd may
held_is port k (target.Accepted _) at may = absurd may
held_is port k (target.Consuming _) at may = absurd may
held_is port k (target.Holding _) at may = absurd may
held_is port k (target.Claiming _) at may = absurd may
held_is port k (target.Arrived _) at may = absurd may
held_is port k (target.Hand _) at may = absurd may
held_is port k (target.Refused _) at may = absurd may
held_is port k (target.Ended _) at may = absurd may

hold_keeps : (taken link : ℕ) (port : PortState) (place : Option ℕ) → place_of link port.ends ≡ place
    → MayNote answer.Held (port_shown place port) → PortLaw any_link taken port → PortLaw any_link taken (holds_at place port)
hold_keeps taken link port None at may law = law
hold_keeps taken link port (Some k) at may law =
    let held = held_is port k (stage_at k port) refl may in
    subst (λ (p : PortState). PortLaw any_link taken p) (sym held.1)
    (moves_keep.look any_link taken port law k (Held held.0) (found link port.ends k at).0)

unavailable_dropped : (stage : TargetStage) → MayNote answer.NotAvailable stage → may_be_dropped stage ≡ true
unavailable_dropped target.Free may = absurd may
unavailable_dropped (target.Offered _) may = absurd may
unavailable_dropped (target.Posted _) may = absurd may
unavailable_dropped (target.Postponed _) may = absurd may
unavailable_dropped (target.Accepted _) may = absurd may
unavailable_dropped (target.Consuming _) may = refl
unavailable_dropped (target.Asking _) may = refl
unavailable_dropped (target.Holding _) may = absurd may
unavailable_dropped (target.Claiming _) may = absurd may
unavailable_dropped (target.Arrived _) may = absurd may
unavailable_dropped (target.Hand _) may = absurd may
unavailable_dropped (target.Refused _) may = absurd may
unavailable_dropped (target.Ended _) may = absurd may

withdrawn_dropped : (stage : TargetStage) → MayNote answer.Withdrawn stage → may_be_dropped stage ≡ true
withdrawn_dropped target.Free may = absurd may
withdrawn_dropped (target.Offered _) may = absurd may
withdrawn_dropped (target.Posted _) may = absurd may
withdrawn_dropped (target.Postponed _) may = refl
withdrawn_dropped (target.Accepted _) may = absurd may
withdrawn_dropped (target.Consuming _) may = refl
withdrawn_dropped (target.Asking _) may = refl
withdrawn_dropped (target.Holding _) may = absurd may
withdrawn_dropped (target.Claiming _) may = absurd may
withdrawn_dropped (target.Arrived _) may = absurd may
withdrawn_dropped (target.Hand _) may = absurd may
withdrawn_dropped (target.Refused _) may = absurd may
withdrawn_dropped (target.Ended _) may = absurd may

drop_keeps : (taken link : ℕ) (told : WishAnswer) (port : PortState) → MayNote told (shown_over port link)
    → ((stage : TargetStage) → MayNote told stage → may_be_dropped stage ≡ true)
    → PortLaw any_link taken port → PortLaw any_link taken (drops link port)
drop_keeps taken link told port may drops law =
    calls_by_link_keep.drop_postponed any_link taken port law link (there (place_of link port.ends) may)
  where
    there : (place : Option ℕ) → MayNote told (port_shown place port) → stands may_be_dropped place port ≡ true
    there None may = absurd (not_noted told port.refusing may)
    there (Some k) may = drops (stage_at k port) may

pub note_keeps : (taken link : ℕ) (told : WishAnswer) (port : PortState) → MayNote told (shown_over port link)
    → PortLaw any_link taken port → PortLaw any_link taken (notes told link port)
note_keeps taken link answer.Coming port may law = law
note_keeps taken link answer.Held port may law = hold_keeps taken link port (place_of link port.ends) refl may law
note_keeps taken link answer.NotAvailable port may law = drop_keeps taken link answer.NotAvailable port may unavailable_dropped law
note_keeps taken link answer.Withdrawn port may law = drop_keeps taken link answer.Withdrawn port may withdrawn_dropped law

-- What waits is taken on, and room comes back

pub less_waits : (taken : ℕ) (port : PortState) (waiting : List Value) → length waiting ≤ length port.waiting
    → PortLaw any_link taken port → PortLaw any_link taken (record port { waiting = waiting })
less_waits taken port waiting less law = record {
  each = law.each;
  distinct = law.distinct;
  known = law.known;
  room = law.room;
  waits = λ limited. let fits = law.waits limited in omega (arith, fits, less);
  took = law.took;
}

pub room_keeps : (taken count : ℕ) (port : PortState) → cond (is_some port.capacity) count 0 ≤ port.load - length port.waiting
    → PortLaw any_link taken port → PortLaw any_link taken (gives_room count port)
room_keeps taken count port fits law = moves_keep.give_room any_link taken port law count fits
