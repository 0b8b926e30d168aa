-- What follows for a link in order: what was given is taken, an accepted message is never denied, and what a look tells is so.
use Rattle.std.specs.Prelude.{◌≡◌, ℕ, ◌⊎◌, true, false, List, [], ◌∷◌, ◌++◌, Option, None}
use Rattle.flow_link.specs.declared.phase.LinkEnd.{LinkEnd}
use Rattle.flow_link.specs.declared.phase.Phase.{Phase}
use Rattle.flow_link.specs.declared.phase.Phase.TheVariants.{Idle, Postponed, Wanted, Given, Asked, Held, Refused, Ended}
use Rattle.flow_link.specs.declared.phase.Move.{Move}
use Rattle.flow_link.specs.Phase.{phase_after, is_numbered}
use Rattle.flow_link.specs.Views.{SourceStage, TargetStage, Refusal, SourceView, TargetView, LinkFacts, crossed}
use Rattle.flow_link.specs.LinkOk.{IsHome, MayPutOff, MayEnd, is_put_off, source_put_off}
use Rattle.flow_link.specs.Looks.{source_finds, target_finds, tells_release, tells_withdrawal}
use Rattle.flow_link.specs.MovesKeep.{InOrderHas}

-- all that was given was taken, or all but the value under way
abbrev pub IsTakenOrUnderWay : {V : Type 0} → List V → List V → Type 0
IsTakenOrUnderWay {V} given taken = (given ≡ taken) ⊎ ((value : V) × (given ≡ taken ++ value ∷ []))

-- the source stands where it may deny
abbrev pub MayDeny : SourceStage → Type 0
MayDeny (SourceStage.wished _) = Unit {0}
MayDeny (SourceStage.asked_by _) = Unit {0}
MayDeny _ = ⊥

-- the source keeps this message for the target, or is about to give it
abbrev pub IsKept : SourceStage → ℕ → Type 0
IsKept stage i = (stage ≡ SourceStage.reserved i) ⊎ (stage ≡ SourceStage.claimed i) ⊎ (stage ≡ SourceStage.filling i)

-- the target holds or claims a message that is kept for it
abbrev pub HoldsOn : {V : Type 0} → TargetStage V → Type 0
HoldsOn (TargetStage.holding _) = Unit {0}
HoldsOn (TargetStage.claiming _) = Unit {0}
HoldsOn _ = ⊥

-- the source has a wish of the target before it, or answers one
abbrev pub HasWish : SourceStage → Type 0
HasWish (SourceStage.waiting _) = Unit {0}
HasWish (SourceStage.accepted _) = Unit {0}
HasWish (SourceStage.wished _) = Unit {0}
HasWish (SourceStage.asked_by _) = Unit {0}
HasWish (SourceStage.reserved _) = Unit {0}
HasWish (SourceStage.claimed _) = Unit {0}
HasWish (SourceStage.filling _) = Unit {0}
HasWish SourceStage.crossing = Unit {0}
HasWish _ = ⊥

-- the target's wish stands, or the source did what the target wished
abbrev pub WishStands : {V : Type 0} → TargetStage V → Phase → Type 0
WishStands (TargetStage.postponed i) phase = phase ≡ Postponed i
WishStands (TargetStage.consuming i) phase = (phase ≡ Wanted i) ⊎ (phase ≡ Given i)
WishStands (TargetStage.asking i) phase = (phase ≡ Asked i) ⊎ (phase ≡ Held i)
WishStands _ phase = Unit {0}

-- the source has nothing under way over the link
abbrev pub IsAtRest : SourceStage → Type 0
IsAtRest SourceStage.free = Unit {0}
IsAtRest SourceStage.refused = Unit {0}
IsAtRest (SourceStage.ended _) = Unit {0}
IsAtRest _ = ⊥

-- a phase that the target cannot leave, where nothing crosses
abbrev pub IsSettled : Phase → Type 0
IsSettled Idle = Unit {0}
IsSettled Refused = Unit {0}
IsSettled (Ended _) = Unit {0}
IsSettled _ = ⊥

-- an end has the slot out of its place
abbrev pub IsFilling : SourceStage → Type 0
IsFilling (SourceStage.filling _) = Unit {0}
IsFilling _ = ⊥

abbrev pub HasInHand : {V : Type 0} → TargetStage V → Type 0
HasInHand (TargetStage.hand _ _) = Unit {0}
HasInHand _ = ⊥

-- what an end takes out is an empty slot, and the two ends never have it at once
pub record OneHolder {V : Type 0} (slot : Option V) (source : SourceView V) (target : TargetView V) : Type 0 where
  pub filling : IsFilling source.stage → slot ≡ None
  pub in_hand : HasInHand target.stage → slot ≡ None
  pub one : IsFilling source.stage → HasInHand target.stage → ⊥

-- a look tells a source that keeps a message whether the target released it
pub record ReleaseIsTold {V : Type 0} (phase : Phase) (i : ℕ) (source : SourceView V) (target : TargetView V) : Type 0 where
  pub stands : tells_release source.stage phase ≡ false → (phase ≡ Held i) ⊎ (phase ≡ Wanted i)
  pub released : tells_release source.stage phase ≡ true → HoldsOn target.stage → ⊥

-- a look tells a target with a wish whether the source withdrew or denied
pub record WithdrawalIsTold {V : Type 0} (phase : Phase) (source : SourceView V) (target : TargetView V) : Type 0 where
  pub stands : tells_withdrawal target.stage phase ≡ false → WishStands target.stage phase
  -- it goes on as one with nothing under way, also where the same message is offered anew
  pub goes_on : tells_withdrawal target.stage phase ≡ true → target_finds target.stage phase ≡ target_finds TargetStage.free phase
  pub answered : tells_withdrawal target.stage phase ≡ true → HasWish source.stage → ⊥

-- over a steady link nothing is ever put off, and over a sole one not the first message
pub record PutOffRarely {V : Type 0} (facts : LinkFacts) (phase : Phase) (source : SourceView V) (target : TargetView V) : Type 0 where
  pub steady : facts.steady ≡ true → is_put_off phase source.stage target.stage ≡ false
  pub sole : facts.sole ≡ true → crossed source ≡ 0 → is_put_off phase source.stage target.stage ≡ false

-- the source ended the link so, by the rule, when all that it gave was taken
pub record HasEnded {V : Type 0} (facts : LinkFacts) (how : LinkEnd) (source : SourceView V) (target : TargetView V) : Type 0 where
  pub by_source : source.stage ≡ SourceStage.ended how
  pub by_rule : MayEnd facts (crossed source) how
  pub all_taken : source.given ≡ target.taken

-- a refusal is the target's, for a reason, and stays
pub record RefusalStays {V : Type 0} (phase : Phase) (source : SourceView V) (target : TargetView V) : Type 0 where
  pub seen : source.stage ≡ SourceStage.refused → phase ≡ Refused
  pub has_reason : phase ≡ Refused → (why : Refusal) × (target.stage ≡ TargetStage.refused why)
  pub stays : (why : Refusal) → target.stage ≡ TargetStage.refused why → phase ≡ Refused

module _ (V : Type 0) where
  abbrev pub LinkLaw : Type 0
  LinkLaw = InOrderHas V λ facts phase slot source target.
      IsTakenOrUnderWay source.given target.taken

  -- a target at accepted or claiming gets the message: the source stands nowhere where it may deny
  abbrev pub NeverDenied : Type 0
  NeverDenied = InOrderHas V λ facts phase slot source target.
      (i : ℕ) → (target.stage ≡ TargetStage.accepted i) ⊎ (target.stage ≡ TargetStage.claiming i)
      → ((phase ≡ Wanted i) ⊎ (phase ≡ Given i)) × (MayDeny source.stage → ⊥)

  abbrev pub HeldIsKept : Type 0
  HeldIsKept = InOrderHas V λ facts phase slot source target.
      (i : ℕ) → phase ≡ Held i → source.stage ≡ SourceStage.reserved i

  abbrev pub ClaimedIsKept : Type 0
  ClaimedIsKept = InOrderHas V λ facts phase slot source target.
      (i : ℕ) → phase ≡ Wanted i → target.stage ≡ TargetStage.claiming i → IsKept source.stage i

  abbrev pub ReleaseTold : Type 0
  ReleaseTold = InOrderHas V λ facts phase slot source target.
      (i : ℕ) → source.stage ≡ SourceStage.reserved i → ReleaseIsTold phase i source target

  abbrev pub WithdrawalTold : Type 0
  WithdrawalTold = InOrderHas V λ facts phase slot source target.
      WithdrawalIsTold phase source target

  -- a source that finds its message put off learns that it may be
  abbrev pub PutOffTold : Type 0
  PutOffTold = InOrderHas V λ facts phase slot source target.
      source_put_off (source_finds source.stage phase) ≡ true → MayPutOff facts (crossed source)

  abbrev pub NeverPutOff : Type 0
  NeverPutOff = InOrderHas V λ facts phase slot source target.
      PutOffRarely facts phase source target

  -- a source whose value crosses, and that finds the link idle, learns that the target has it
  abbrev pub CloseTold : Type 0
  CloseTold = InOrderHas V λ facts phase slot source target.
      source.stage ≡ SourceStage.crossing → phase ≡ Idle → source.given ≡ target.taken

  -- a source at rest knows that nothing is under way, and that the target cannot change that
  abbrev pub RestTold : Type 0
  RestTold = InOrderHas V λ facts phase slot source target.
      IsAtRest source.stage → IsSettled phase × IsHome slot source.given target.taken

  -- only the source leaves idle, so a source that has seen it free may store its next offer
  abbrev pub FreeIsIdle : Type 0
  FreeIsIdle = InOrderHas V λ facts phase slot source target.
      source.stage ≡ SourceStage.free → phase ≡ Idle

  abbrev pub SlotHasOneHolder : Type 0
  SlotHasOneHolder = InOrderHas V λ facts phase slot source target.
      OneHolder slot source target

  abbrev pub EndTold : Type 0
  EndTold = InOrderHas V λ facts phase slot source target.
      (how : LinkEnd) → (phase ≡ Ended how) ⊎ (target.stage ≡ TargetStage.ended how) → HasEnded facts how source target

  -- a fault over a link has a number
  abbrev pub FaultNumbered : Type 0
  FaultNumbered = InOrderHas V λ facts phase slot source target.
      is_numbered phase ≡ true

  abbrev pub RefusalTold : Type 0
  RefusalTold = InOrderHas V λ facts phase slot source target.
      RefusalStays phase source target

-- nobody leaves a refused or an ended link
pub record StaysForGood : Type 0 where
  pub refused : (step : Move) → phase_after Refused step ≡ None
  pub ended : (how : LinkEnd) (step : Move) → phase_after (Ended how) step ≡ None

-- all that a link in order tells
pub record LinksTell (V : Type 0) : Type 0 where
  pub link_law : LinkLaw V
  pub never_denied : NeverDenied V
  pub held_is_kept : HeldIsKept V
  pub claimed_is_kept : ClaimedIsKept V
  pub release_told : ReleaseTold V
  pub withdrawal_told : WithdrawalTold V
  pub put_off_told : PutOffTold V
  pub never_put_off : NeverPutOff V
  pub close_told : CloseTold V
  pub rest_told : RestTold V
  pub free_is_idle : FreeIsIdle V
  pub slot_has_one_holder : SlotHasOneHolder V
  pub end_told : EndTold V
  pub fault_numbered : FaultNumbered V
  pub refusal_told : RefusalTold V
  pub for_good : StaysForGood
