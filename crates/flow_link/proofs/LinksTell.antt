-- What follows for a link in order.
use Rattle.std.proofs.Common.{◌≡◌, ℕ, ◌⊎◌, inl, inr, Bool, true, false, List, Option, Some, None, refl, ap, sym, subst, arith, ⊎_elim}
use Rattle.std.proofs.lemmas.Bool.{lt-ltb}
use Rattle.std.specs.Bool.{OnTrue}
use Rattle.flow_link.specs.declared.phase.LinkEnd.{LinkEnd}
use Rattle.flow_link.specs.declared.phase.LinkEnd.TheVariants.{Plain, Complete, Fault}
use Rattle.flow_link.specs.declared.phase.Phase.{Phase}
use Rattle.flow_link.specs.declared.phase.Phase.TheVariants.{Idle, Posted, Offered, Postponed, Wanted, Given, Opened, Asked, Held, Refused, Ended}
use Rattle.flow_link.specs.declared.phase.Move.{Move}
use Rattle.flow_link.specs.declared.phase.Move.TheVariants.{Offer}
use Rattle.flow_link.specs.Phase.{phase_after, is_numbered}
use Rattle.flow_link.specs.Views.{SourceStage, TargetStage, Refusal, SourceView, TargetView, LinkFacts, crossed}
use Rattle.flow_link.specs.LinkOk.{StandAt, CrossedAt, IsHome, LinkOk, MayPutOff, EndsWell, is_put_off, source_put_off}
use Rattle.flow_link.specs.Looks.{source_finds, target_finds, tells_release, tells_withdrawal}
use Rattle.flow_link.specs.Told.{IsAtRest, IsSettled, IsFilling, HasInHand, RestTold, FreeIsIdle, SlotHasOneHolder, IsTakenOrUnderWay, MayDeny, IsKept, HoldsOn, HasWish, WishStands, HasEnded, LinkLaw, NeverDenied, HeldIsKept, ClaimedIsKept, ReleaseTold, WithdrawalTold, PutOffTold, NeverPutOff, CloseTold, EndTold, FaultNumbered, RefusalTold, LinksTell}
use Rattle.flow_link.proofs.LooksKeepOrder.{look_out_keeps}

-- what cannot be is not
never_where : (b : Bool) {P : Type 0} → (P → ⊥) → OnTrue b P → b ≡ false
never_where true never h = absurd (never h)
never_where false never h = refl

-- a link that ended well tells the number of its fault
pub ends_numbered : (facts : LinkFacts) (count : ℕ) (phase : Phase) → EndsWell facts count phase → is_numbered phase ≡ true
ends_numbered facts count (Ended (Fault number)) ends = lt-ltb 0 number (omega (arith, ends.numbered))
ends_numbered facts count (Ended Plain) ends = refl
ends_numbered facts count (Ended Complete) ends = refl
ends_numbered facts count _ ends = refl

module _ (V : Type 0) where
  taken_or_under_way : (phase : Phase) (t : TargetStage V) (slot : Option V) (given taken : List V)
      → CrossedAt phase t slot given taken → IsTakenOrUnderWay given taken
  taken_or_under_way (Given i) t (Some value) given taken e = inr (value, e)
  taken_or_under_way (Given i) t None given taken h = absurd h
  taken_or_under_way (Opened i) (TargetStage.hand j value) slot given taken h = inr (value, h.all_but_one)
  taken_or_under_way (Opened i) _ slot given taken h = absurd h
  taken_or_under_way _ t slot given taken h = inl h.all

  accepted_not_denied : (phase : Phase) (s : SourceStage) (i : ℕ) → StandAt {V = V} phase s (TargetStage.accepted i)
      → ((phase ≡ Wanted i) ⊎ (phase ≡ Given i)) × (MayDeny s → ⊥)
  accepted_not_denied (Wanted j) (SourceStage.posted k) i h = (inl (ap Wanted (sym h.1)), λ d. d)
  accepted_not_denied (Wanted j) (SourceStage.out k) i h = (inl (ap Wanted (sym h.1)), λ d. d)
  accepted_not_denied (Wanted j) (SourceStage.accepted k) i h = (inl (ap Wanted (sym h.1)), λ d. d)
  accepted_not_denied (Wanted j) (SourceStage.filling k) i h = (inl (ap Wanted (sym h.1)), λ d. d)
  accepted_not_denied (Given j) SourceStage.crossing i h = (inr (ap Given (sym h)), λ d. d)
  accepted_not_denied _ SourceStage.free i h = absurd h
  accepted_not_denied _ _ i h = absurd h

  claiming_not_denied : (phase : Phase) (s : SourceStage) (i : ℕ) → StandAt {V = V} phase s (TargetStage.claiming i)
      → ((phase ≡ Wanted i) ⊎ (phase ≡ Given i)) × (MayDeny s → ⊥)
  claiming_not_denied (Wanted j) (SourceStage.reserved k) i h = (inl (ap Wanted (sym h.1)), λ d. d)
  claiming_not_denied (Wanted j) (SourceStage.claimed k) i h = (inl (ap Wanted (sym h.1)), λ d. d)
  claiming_not_denied (Wanted j) (SourceStage.filling k) i h = (inl (ap Wanted (sym h.1)), λ d. d)
  claiming_not_denied (Given j) SourceStage.crossing i h = (inr (ap Given (sym h)), λ d. d)
  claiming_not_denied _ SourceStage.free i h = absurd h
  claiming_not_denied _ _ i h = absurd h

  held_is_reserved : (s : SourceStage) (t : TargetStage V) (i : ℕ) → StandAt (Held i) s t → s ≡ SourceStage.reserved i
  held_is_reserved (SourceStage.reserved j) (TargetStage.asking k) i h = ap SourceStage.reserved h.0
  held_is_reserved (SourceStage.reserved j) (TargetStage.holding k) i h = ap SourceStage.reserved h.0
  held_is_reserved _ TargetStage.free i h = absurd h
  held_is_reserved _ _ i h = absurd h

  claimed_is_reserved : (s : SourceStage) (i j : ℕ) → StandAt {V = V} (Wanted i) s (TargetStage.claiming j) → IsKept s i
  claimed_is_reserved (SourceStage.reserved k) i j h = inl (ap SourceStage.reserved h.0)
  claimed_is_reserved (SourceStage.claimed k) i j h = inr (inl (ap SourceStage.claimed h.0))
  claimed_is_reserved (SourceStage.filling k) i j h = inr (inr (ap SourceStage.filling h.0))
  claimed_is_reserved _ i j h = absurd h

  -- where the message is not released, and where it is
  reserved_stands : (phase : Phase) (t : TargetStage V) (i : ℕ) → StandAt phase (SourceStage.reserved i) t
      → tells_release (SourceStage.reserved i) phase ≡ false → (phase ≡ Held i) ⊎ (phase ≡ Wanted i)
  reserved_stands (Held j) (TargetStage.asking k) i h e = inl (ap Held (sym h.0))
  reserved_stands (Held j) (TargetStage.holding k) i h e = inl (ap Held (sym h.0))
  reserved_stands (Wanted j) (TargetStage.claiming k) i h e = inr (ap Wanted (sym h.0))
  reserved_stands (Postponed j) t i h e = absurd cc
  reserved_stands (Asked j) t i h e = absurd cc
  reserved_stands Refused t i h e = absurd cc
  reserved_stands _ TargetStage.free i h e = absurd h
  reserved_stands _ _ i h e = absurd h

  reserved_released : (phase : Phase) (t : TargetStage V) (i : ℕ) → StandAt phase (SourceStage.reserved i) t
      → tells_release (SourceStage.reserved i) phase ≡ true → HoldsOn t → ⊥
  reserved_released (Postponed j) (TargetStage.postponed k) i h e holds = holds
  reserved_released (Asked j) (TargetStage.asking k) i h e holds = holds
  reserved_released Refused (TargetStage.refused why) i h e holds = holds
  reserved_released (Held j) t i h e holds = cc
  reserved_released (Wanted j) t i h e holds = cc
  reserved_released _ TargetStage.free i h e holds = holds
  reserved_released _ _ i h e holds = h

  -- where a target's wish stands, and where it does not
  postponed_wish : (phase : Phase) (s : SourceStage) (i : ℕ) → StandAt {V = V} phase s (TargetStage.postponed i)
      → tells_withdrawal {V = V} (TargetStage.postponed i) phase ≡ false → WishStands {V = V} (TargetStage.postponed i) phase
  postponed_wish (Postponed j) (SourceStage.out k) i h e = ap Postponed (sym h.1)
  postponed_wish (Postponed j) (SourceStage.waiting k) i h e = ap Postponed (sym h.1)
  postponed_wish (Postponed j) (SourceStage.reserved k) i h e = ap Postponed (sym h.1)
  postponed_wish (Postponed j) _ i h e = absurd h
  postponed_wish _ _ i h e = absurd cc

  postponed_goes_on : (phase : Phase) (s : SourceStage) (i : ℕ) → StandAt {V = V} phase s (TargetStage.postponed i)
      → tells_withdrawal {V = V} (TargetStage.postponed i) phase ≡ true
      → (target_finds {V = V} (TargetStage.postponed i) phase ≡ target_finds TargetStage.free phase) × (HasWish s → ⊥)
  postponed_goes_on Idle SourceStage.free i h e = (refl, λ w. w)
  postponed_goes_on (Posted j) (SourceStage.posted k) i h e = (refl, λ w. w)
  postponed_goes_on (Offered j) (SourceStage.out k) i h e = (refl, λ w. w)
  postponed_goes_on (Ended how) (SourceStage.ended mine) i h e = (refl, λ w. w)
  postponed_goes_on (Postponed j) s i h e = absurd cc
  postponed_goes_on _ SourceStage.free i h e = absurd h
  postponed_goes_on _ _ i h e = absurd h

  consuming_wish : (phase : Phase) (s : SourceStage) (i : ℕ) → StandAt {V = V} phase s (TargetStage.consuming i)
      → tells_withdrawal {V = V} (TargetStage.consuming i) phase ≡ false → WishStands {V = V} (TargetStage.consuming i) phase
  consuming_wish (Wanted j) (SourceStage.out k) i h e = inl (ap Wanted (sym h.1))
  consuming_wish (Wanted j) (SourceStage.accepted k) i h e = inl (ap Wanted (sym h.1))
  consuming_wish (Wanted j) (SourceStage.waiting k) i h e = inl (ap Wanted (sym h.1))
  consuming_wish (Wanted j) (SourceStage.wished k) i h e = inl (ap Wanted (sym h.1))
  consuming_wish (Wanted j) (SourceStage.filling k) i h e = inl (ap Wanted (sym h.1))
  consuming_wish (Given j) SourceStage.crossing i h e = inr (ap Given (sym h))
  consuming_wish (Wanted j) _ i h e = absurd h
  consuming_wish (Given j) _ i h e = absurd h
  consuming_wish _ _ i h e = absurd cc

  consuming_goes_on : (phase : Phase) (s : SourceStage) (i : ℕ) → StandAt {V = V} phase s (TargetStage.consuming i)
      → tells_withdrawal {V = V} (TargetStage.consuming i) phase ≡ true
      → (target_finds {V = V} (TargetStage.consuming i) phase ≡ target_finds TargetStage.free phase) × (HasWish s → ⊥)
  consuming_goes_on Idle SourceStage.free i h e = (refl, λ w. w)
  consuming_goes_on (Posted j) (SourceStage.posted k) i h e = (refl, λ w. w)
  consuming_goes_on (Offered j) (SourceStage.out k) i h e = (refl, λ w. w)
  consuming_goes_on (Ended how) (SourceStage.ended mine) i h e = (refl, λ w. w)
  consuming_goes_on (Wanted j) s i h e = absurd cc
  consuming_goes_on (Given j) s i h e = absurd cc
  consuming_goes_on _ SourceStage.free i h e = absurd h
  consuming_goes_on _ _ i h e = absurd h

  asking_wish : (phase : Phase) (s : SourceStage) (i : ℕ) → StandAt {V = V} phase s (TargetStage.asking i)
      → tells_withdrawal {V = V} (TargetStage.asking i) phase ≡ false → WishStands {V = V} (TargetStage.asking i) phase
  asking_wish (Asked j) (SourceStage.out k) i h e = inl (ap Asked (sym h.1))
  asking_wish (Asked j) (SourceStage.waiting k) i h e = inl (ap Asked (sym h.1))
  asking_wish (Asked j) (SourceStage.asked_by k) i h e = inl (ap Asked (sym h.1))
  asking_wish (Asked j) (SourceStage.reserved k) i h e = inl (ap Asked (sym h.1))
  asking_wish (Held j) (SourceStage.reserved k) i h e = inr (ap Held (sym h.1))
  asking_wish (Asked j) _ i h e = absurd h
  asking_wish (Held j) _ i h e = absurd h
  asking_wish _ _ i h e = absurd cc

  asking_goes_on : (phase : Phase) (s : SourceStage) (i : ℕ) → StandAt {V = V} phase s (TargetStage.asking i)
      → tells_withdrawal {V = V} (TargetStage.asking i) phase ≡ true
      → (target_finds {V = V} (TargetStage.asking i) phase ≡ target_finds TargetStage.free phase) × (HasWish s → ⊥)
  asking_goes_on Idle SourceStage.free i h e = (refl, λ w. w)
  asking_goes_on (Posted j) (SourceStage.posted k) i h e = (refl, λ w. w)
  asking_goes_on (Offered j) (SourceStage.out k) i h e = (refl, λ w. w)
  asking_goes_on (Ended how) (SourceStage.ended mine) i h e = (refl, λ w. w)
  asking_goes_on (Asked j) s i h e = absurd cc
  asking_goes_on (Held j) s i h e = absurd cc
  asking_goes_on _ SourceStage.free i h e = absurd h
  asking_goes_on _ _ i h e = absurd h

  wish_stands : (phase : Phase) (s : SourceStage) (t : TargetStage V) → StandAt phase s t
      → tells_withdrawal t phase ≡ false → WishStands t phase
  wish_stands phase s (TargetStage.postponed i) h e = postponed_wish phase s i h e
  wish_stands phase s (TargetStage.consuming i) h e = consuming_wish phase s i h e
  wish_stands phase s (TargetStage.asking i) h e = asking_wish phase s i h e
  wish_stands phase s _ h e = tt

  goes_on : (phase : Phase) (s : SourceStage) (t : TargetStage V) → StandAt phase s t
      → tells_withdrawal t phase ≡ true → (target_finds t phase ≡ target_finds TargetStage.free phase) × (HasWish s → ⊥)
  goes_on phase s (TargetStage.postponed i) h e = postponed_goes_on phase s i h e
  goes_on phase s (TargetStage.consuming i) h e = consuming_goes_on phase s i h e
  goes_on phase s (TargetStage.asking i) h e = asking_goes_on phase s i h e
  goes_on phase s _ h e = absurd cc

  -- what is put off may be put off
  may_put_off : (facts : LinkFacts) (count : ℕ) (phase : Phase) (s : SourceStage) (t : TargetStage V)
      → source_put_off s ≡ true → OnTrue (is_put_off phase s t) (MayPutOff facts count) → MayPutOff facts count
  may_put_off facts count (Postponed i) s t e may = may
  may_put_off facts count (Asked i) s t e may = may
  may_put_off facts count (Held i) s t e may = may
  may_put_off facts count Idle s t e may = rw e at may
  may_put_off facts count _ s t e may = rw e at may

  close_is_told : (t : TargetStage V) (slot : Option V) (given taken : List V) → CrossedAt Idle t slot given taken → given ≡ taken
  close_is_told t slot given taken h = h.all

  settled_is_home : (phase : Phase) (t : TargetStage V) (slot : Option V) (given taken : List V)
      → IsSettled phase → CrossedAt phase t slot given taken → IsHome slot given taken
  settled_is_home Idle t slot given taken settled h = h
  settled_is_home Refused t slot given taken settled h = h
  settled_is_home (Ended how) t slot given taken settled h = h
  settled_is_home _ t slot given taken settled h = absurd settled

  free_at_idle : (phase : Phase) (t : TargetStage V) → StandAt phase SourceStage.free t → phase ≡ Idle
  free_at_idle Idle t h = refl
  free_at_idle _ TargetStage.free h = absurd h
  free_at_idle _ _ h = absurd h

  ended_stages : (s : SourceStage) (t : TargetStage V) (how : LinkEnd) → StandAt (Ended how) s t → s ≡ SourceStage.ended how
  ended_stages (SourceStage.ended mine) TargetStage.free how h = ap SourceStage.ended h
  ended_stages (SourceStage.ended mine) (TargetStage.ended yours) how h = ap SourceStage.ended h.0
  ended_stages (SourceStage.ended mine) (TargetStage.postponed k) how h = ap SourceStage.ended h
  ended_stages (SourceStage.ended mine) (TargetStage.consuming k) how h = ap SourceStage.ended h
  ended_stages (SourceStage.ended mine) (TargetStage.asking k) how h = ap SourceStage.ended h
  ended_stages _ TargetStage.free how h = absurd h
  ended_stages _ _ how h = absurd h

  seen_ended : (phase : Phase) (s : SourceStage) (how : LinkEnd) → StandAt {V = V} phase s (TargetStage.ended how) → phase ≡ Ended how
  seen_ended (Ended found) (SourceStage.ended mine) how h = ap Ended (sym h.1)
  seen_ended _ SourceStage.free how h = absurd h
  seen_ended _ _ how h = absurd h

  seen_refused : (phase : Phase) (t : TargetStage V) → StandAt phase SourceStage.refused t → phase ≡ Refused
  seen_refused Refused t h = refl
  seen_refused _ TargetStage.free h = absurd h
  seen_refused _ _ h = absurd h

  ended_by_source : (phase : Phase) (t : TargetStage V) (how : LinkEnd) → StandAt phase (SourceStage.ended how) t → phase ≡ Ended how
  ended_by_source (Ended found) TargetStage.free how h = ap Ended (sym h)
  ended_by_source (Ended found) (TargetStage.ended yours) how h = ap Ended (sym h.0)
  ended_by_source (Ended found) (TargetStage.postponed k) how h = ap Ended (sym h)
  ended_by_source (Ended found) (TargetStage.consuming k) how h = ap Ended (sym h)
  ended_by_source (Ended found) (TargetStage.asking k) how h = ap Ended (sym h)
  ended_by_source _ TargetStage.free how h = absurd h
  ended_by_source _ _ how h = absurd h

  rest_is_settled : (phase : Phase) (s : SourceStage) (t : TargetStage V) → StandAt phase s t → IsAtRest s → IsSettled phase
  rest_is_settled phase SourceStage.free t h rest = rw (free_at_idle phase t h) tt
  rest_is_settled phase SourceStage.refused t h rest = rw (seen_refused phase t h) tt
  rest_is_settled phase (SourceStage.ended how) t h rest = rw (ended_by_source phase t how h) tt
  rest_is_settled phase _ t h rest = absurd rest

  filling_at_wanted : (phase : Phase) (t : TargetStage V) (i : ℕ) → StandAt phase (SourceStage.filling i) t → (phase ≡ Wanted i) × (HasInHand t → ⊥)
  filling_at_wanted (Wanted j) (TargetStage.accepted k) i h = (ap Wanted (sym h.0), λ in_hand. in_hand)
  filling_at_wanted (Wanted j) (TargetStage.consuming k) i h = (ap Wanted (sym h.0), λ in_hand. in_hand)
  filling_at_wanted (Wanted j) (TargetStage.claiming k) i h = (ap Wanted (sym h.0), λ in_hand. in_hand)
  filling_at_wanted _ TargetStage.free i h = absurd h
  filling_at_wanted _ _ i h = absurd h

  filling_is_empty : (phase : Phase) (s : SourceStage) (t : TargetStage V) (slot : Option V) (given taken : List V)
      → StandAt phase s t → CrossedAt phase t slot given taken → IsFilling s → (slot ≡ None) × (HasInHand t → ⊥)
  filling_is_empty phase (SourceStage.filling i) t slot given taken h crossed out =
      let wanted = filling_at_wanted phase t i h in
      let home = rw wanted.0 at crossed in
      (home.empty, wanted.1)
  filling_is_empty phase _ t slot given taken h crossed out = absurd out

  hand_at_opened : (phase : Phase) (s : SourceStage) (i : ℕ) (value : V) → StandAt phase s (TargetStage.hand i value) → phase ≡ Opened i
  hand_at_opened (Opened j) SourceStage.crossing i value h = ap Opened (sym h)
  hand_at_opened _ SourceStage.free i value h = absurd h
  hand_at_opened _ _ i value h = absurd h

  hand_is_empty : (phase : Phase) (s : SourceStage) (t : TargetStage V) (slot : Option V) (given taken : List V)
      → StandAt phase s t → CrossedAt phase t slot given taken → HasInHand t → slot ≡ None
  hand_is_empty phase s (TargetStage.hand i value) slot given taken h crossed out =
      let in_hand = rw (hand_at_opened phase s i value h) at crossed in
      in_hand.empty
  hand_is_empty phase s _ slot given taken h crossed out = absurd out

  refused_stage : (s : SourceStage) (t : TargetStage V) → StandAt Refused s t → (why : Refusal) × (t ≡ TargetStage.refused why)
  refused_stage s (TargetStage.refused why) h = (why, refl)
  refused_stage SourceStage.free t h = absurd h
  refused_stage _ _ h = absurd h

  refused_stays : (phase : Phase) (s : SourceStage) (why : Refusal) → StandAt {V = V} phase s (TargetStage.refused why) → phase ≡ Refused
  refused_stays Refused s why h = refl
  refused_stays _ SourceStage.free why h = absurd h
  refused_stays _ _ why h = absurd h

refused_for_good : (step : Move) → phase_after Refused step ≡ None
refused_for_good (Offer i) = refl
refused_for_good _ = refl

ended_for_good : (how : LinkEnd) (step : Move) → phase_after (Ended how) step ≡ None
ended_for_good how (Offer i) = refl
ended_for_good how _ = refl

module _ (V : Type 0) where
  link_law : LinkLaw V
  link_law facts phase slot source target ok = taken_or_under_way V phase target.stage slot source.given target.taken ok.values

  never_denied : NeverDenied V
  never_denied facts phase slot source target ok i stage =
      ⊎_elim
      (λ e. accepted_not_denied V phase source.stage i (rw e at ok.stages))
      (λ e. claiming_not_denied V phase source.stage i (rw e at ok.stages))
      stage

  held_is_kept : HeldIsKept V
  held_is_kept facts phase slot source target ok i found = held_is_reserved V source.stage target.stage i (rw found at ok.stages)

  claimed_is_kept : ClaimedIsKept V
  claimed_is_kept facts phase slot source target ok i found stage =
      claimed_is_reserved V source.stage i i (rw (found, stage) at ok.stages)

  release_told : ReleaseTold V
  release_told facts phase slot source target ok i stage = record {
    stands = λ told. reserved_stands V phase target.stage i (rw stage at ok.stages) (rw stage at told);
    released = λ told. reserved_released V phase target.stage i (rw stage at ok.stages) (rw stage at told);
  }

  withdrawal_told : WithdrawalTold V
  withdrawal_told facts phase slot source target ok = record {
    stands = wish_stands V phase source.stage target.stage ok.stages;
    goes_on = λ told. (goes_on V phase source.stage target.stage ok.stages told).0;
    answered = λ told. (goes_on V phase source.stage target.stage ok.stages told).1;
  }

  put_off_told : PutOffTold V
  put_off_told facts phase slot source target ok found =
      may_put_off V facts (crossed source) phase (source_finds source.stage phase) target.stage found
      (look_out_keeps V facts phase slot source target ok).plan.put_off

  never_put_off : NeverPutOff V
  never_put_off facts phase slot source target ok = record {
    steady = λ is_steady. never_where _ (λ may. let not_steady = may.not_steady in cc) ok.plan.put_off;
    sole = λ is_sole none. never_where _ (λ may. let first = may.not_the_first is_sole in omega arith) ok.plan.put_off;
  }

  close_told : CloseTold V
  close_told facts phase slot source target ok stage found =
      close_is_told V target.stage slot source.given target.taken (rw found at ok.values)

  rest_told : RestTold V
  rest_told facts phase slot source target ok rest =
      let settled = rest_is_settled V phase source.stage target.stage ok.stages rest in
      (settled, settled_is_home V phase target.stage slot source.given target.taken settled ok.values)

  free_is_idle : FreeIsIdle V
  free_is_idle facts phase slot source target ok stage = free_at_idle V phase target.stage (rw stage at ok.stages)

  slot_has_one_holder : SlotHasOneHolder V
  slot_has_one_holder facts phase slot source target ok = record {
    filling = λ out. (filling_is_empty V phase source.stage target.stage slot source.given target.taken ok.stages ok.values out).0;
    in_hand = hand_is_empty V phase source.stage target.stage slot source.given target.taken ok.stages ok.values;
    one = λ out. (filling_is_empty V phase source.stage target.stage slot source.given target.taken ok.stages ok.values out).1;
  }

  ended_at : (facts : LinkFacts) (phase : Phase) (slot : Option V) (source : SourceView V) (target : TargetView V)
      → LinkOk facts phase slot source target → (how : LinkEnd) → phase ≡ Ended how → HasEnded facts how source target
  ended_at facts phase slot source target ok how found =
      let ended : LinkOk facts (Ended how) slot source target = subst (λ p. LinkOk facts p slot source target) found ok in
      record {
        by_source = ended_stages V source.stage target.stage how ended.stages;
        by_rule = ended.plan.ends;
        all_taken = ended.values.all;
      }

  end_told : EndTold V
  end_told facts phase slot source target ok how told =
      ⊎_elim
      (λ found. ended_at facts phase slot source target ok how found)
      (λ stage. ended_at facts phase slot source target ok how (seen_ended V phase source.stage how (rw stage at ok.stages)))
      told

  fault_numbered : FaultNumbered V
  fault_numbered facts phase slot source target ok = ends_numbered facts (crossed source) phase ok.plan.ends

  refusal_told : RefusalTold V
  refusal_told facts phase slot source target ok = record {
    seen = λ stage. seen_refused V phase target.stage (rw stage at ok.stages);
    has_reason = λ found. refused_stage V source.stage target.stage (rw found at ok.stages);
    stays = λ why stage. refused_stays V phase source.stage why (rw stage at ok.stages);
  }

  pub links_tell : LinksTell V
  links_tell = record {
    link_law = link_law;
    never_denied = never_denied;
    held_is_kept = held_is_kept;
    claimed_is_kept = claimed_is_kept;
    release_told = release_told;
    withdrawal_told = withdrawal_told;
    put_off_told = put_off_told;
    never_put_off = never_put_off;
    close_told = close_told;
    rest_told = rest_told;
    free_is_idle = free_is_idle;
    slot_has_one_holder = slot_has_one_holder;
    end_told = end_told;
    fault_numbered = fault_numbered;
    refusal_told = refusal_told;
    for_good = record { refused = refused_for_good; ended = ended_for_good };
  }
