-- Each move that an end makes where its own stage allows it is one that the link's phase allows, and leaves the link in order.
-- Only at postponed may both ends move: what is done from there, and a consume or an ask, is told the phase that it found.
use Rattle.std.specs.Prelude.{◌≡◌, ℕ, ◌<◌, ◌≤◌, ◌⊎◌, true, false, Option, Some, None}
use Rattle.flow_link.specs.declared.phase.LinkEnd.{LinkEnd}
use Rattle.flow_link.specs.declared.phase.Phase.{Phase}
use Rattle.flow_link.specs.declared.phase.Phase.TheVariants.{Idle, Posted, Offered, Postponed, Wanted, Given, Opened, Asked, Held, Refused, Ended}
use Rattle.flow_link.specs.declared.phase.Move.{Move}
use Rattle.flow_link.specs.declared.phase.Move.TheVariants.{Offer, Post, Want, TurnDown, Refuse, Postpone, Consume, Withdraw, Deny, Give, Open, Close, End, Ask, Hold, Claim, Release}
use Rattle.flow_link.specs.Phase.{phase_after}
use Rattle.flow_link.specs.Views.{SourceStage, TargetStage, Refusal, SourceView, TargetView, LinkFacts, crossed, crossed_in}
use Rattle.flow_link.specs.LinkOk.{LinkOk, HasRoom, MayEnd}
use Rattle.flow_link.specs.Moves.{offering, posting, ending, filling, giving, denying, holding, withdrawing, wanting, turning_down, refusing, postponing, consuming, asking, claiming, releasing, opening, closing}

module _ {V : Type 0} where
  -- the move is allowed, and leads to this phase, slot and views, which are in order
  pub record Keeps (facts : LinkFacts) (phase : Phase) (step : Move) (after : Phase) (slot : Option V) (source : SourceView V) (target : TargetView V) : Type 0 where
    pub allowed : phase_after phase step ≡ Some after
    pub in_order : LinkOk facts after slot source target

  -- the source may take the slot out, and it is empty
  pub record Fills (facts : LinkFacts) (phase : Phase) (i : ℕ) (slot : Option V) (source : SourceView V) (target : TargetView V) : Type 0 where
    pub is_wanted : phase ≡ Wanted i
    pub empty : slot ≡ None
    pub in_order : LinkOk facts phase slot source target

  -- the target finds a value in the slot
  pub record Opens (facts : LinkFacts) (phase : Phase) (i : ℕ) (slot : Option V) (source : SourceView V) (target : TargetView V) : Type 0 where
    pub value : V
    pub in_slot : slot ≡ Some value
    pub keeps : Keeps facts phase Open (Opened i) None source (opening i value target)

-- a fact of each link that is in order
abbrev pub InOrderHas : (V : Type 0) → (LinkFacts → Phase → Option V → SourceView V → TargetView V → Type 0) → Type 0
InOrderHas V P =
    (facts : LinkFacts) (phase : Phase) (slot : Option V) (source : SourceView V) (target : TargetView V)
    → LinkOk facts phase slot source target → P facts phase slot source target

-- the source's moves
module _ (V : Type 0) where
  abbrev pub OfferKeeps : Type 0
  OfferKeeps = InOrderHas V λ facts phase slot source target.
      (i : ℕ) → source.stage ≡ SourceStage.free → source.last < i → HasRoom facts.max (crossed source)
      → Keeps facts phase (Offer i) (Offered i) slot (offering i source) target

  abbrev pub PostKeeps : Type 0
  PostKeeps = InOrderHas V λ facts phase slot source target.
      (i : ℕ) → source.stage ≡ SourceStage.free → source.last < i → HasRoom facts.max (crossed source)
      → Keeps facts phase (Post i) (Posted i) slot (posting i source) target

  abbrev pub EndKeeps : Type 0
  EndKeeps = InOrderHas V λ facts phase slot source target.
      (how : LinkEnd) → source.stage ≡ SourceStage.free → MayEnd facts (crossed source) how
      → Keeps facts phase (End how) (Ended how) slot (ending how source) target

  abbrev pub FillKeeps : Type 0
  FillKeeps = InOrderHas V λ facts phase slot source target.
      (i : ℕ) → (source.stage ≡ SourceStage.accepted i) ⊎ (source.stage ≡ SourceStage.wished i) ⊎ (source.stage ≡ SourceStage.claimed i)
      → Fills facts phase i slot (filling i source) target

  abbrev pub GiveKeeps : Type 0
  GiveKeeps = InOrderHas V λ facts phase slot source target.
      (i : ℕ) (value : V) → source.stage ≡ SourceStage.filling i
      → Keeps facts phase Give (Given i) (Some value) (giving i value source) target

  -- where nobody looks in between, slot out and give are one step
  abbrev pub GiveAtOnceKeeps : Type 0
  GiveAtOnceKeeps = InOrderHas V λ facts phase slot source target.
      (i : ℕ) (value : V) → (source.stage ≡ SourceStage.accepted i) ⊎ (source.stage ≡ SourceStage.wished i) ⊎ (source.stage ≡ SourceStage.claimed i)
      → Keeps facts phase Give (Given i) (Some value) (giving i value source) target

  abbrev pub DenyKeeps : Type 0
  DenyKeeps = InOrderHas V λ facts phase slot source target.
      (i : ℕ) → (source.stage ≡ SourceStage.wished i) ⊎ (source.stage ≡ SourceStage.asked_by i)
      → Keeps facts phase Deny Idle slot (denying source) target

  abbrev pub HoldKeeps : Type 0
  HoldKeeps = InOrderHas V λ facts phase slot source target.
      (i : ℕ) → source.stage ≡ SourceStage.asked_by i
      → Keeps facts phase Hold (Held i) slot (holding i source) target

  abbrev pub WithdrawKeeps : Type 0
  WithdrawKeeps = InOrderHas V λ facts phase slot source target.
      (i : ℕ) → source.stage ≡ SourceStage.waiting i → phase ≡ Postponed i
      → Keeps facts phase Withdraw Idle slot (withdrawing source) target

-- the target's moves
module _ (V : Type 0) where
  abbrev pub WantKeeps : Type 0
  WantKeeps = InOrderHas V λ facts phase slot source target.
      (i : ℕ) → (target.stage ≡ TargetStage.offered i) ⊎ (target.stage ≡ TargetStage.posted i) → facts.reserving ≡ false
      → Keeps facts phase Want (Wanted i) slot source (wanting i target)

  abbrev pub TurnDownKeeps : Type 0
  TurnDownKeeps = InOrderHas V λ facts phase slot source target.
      (i : ℕ) → target.stage ≡ TargetStage.posted i
      → Keeps facts phase TurnDown Idle slot source (turning_down target)

  abbrev pub PostponeKeeps : Type 0
  PostponeKeeps = InOrderHas V λ facts phase slot source target.
      (i : ℕ) → target.stage ≡ TargetStage.offered i → facts.steady ≡ false → (facts.sole ≡ true → 1 ≤ crossed_in target)
      → Keeps facts phase Postpone (Postponed i) slot source (postponing i target)

  abbrev pub RefuseKeeps : Type 0
  RefuseKeeps = InOrderHas V λ facts phase slot source target.
      (i : ℕ) (why : Refusal) → (target.stage ≡ TargetStage.offered i) ⊎ (target.stage ≡ TargetStage.posted i)
      → Keeps facts phase Refuse Refused slot source (refusing why target)

  abbrev pub RefusePostponedKeeps : Type 0
  RefusePostponedKeeps = InOrderHas V λ facts phase slot source target.
      (i : ℕ) (why : Refusal) → target.stage ≡ TargetStage.postponed i → phase ≡ Postponed i
      → Keeps facts phase Refuse Refused slot source (refusing why target)

  abbrev pub ConsumeKeeps : Type 0
  ConsumeKeeps = InOrderHas V λ facts phase slot source target.
      (i : ℕ) → target.stage ≡ TargetStage.postponed i → phase ≡ Postponed i → facts.reserving ≡ false
      → Keeps facts phase Consume (Wanted i) slot source (consuming i target)

  abbrev pub AskKeeps : Type 0
  AskKeeps = InOrderHas V λ facts phase slot source target.
      (i : ℕ) → target.stage ≡ TargetStage.postponed i → phase ≡ Postponed i → facts.reserving ≡ true
      → Keeps facts phase Ask (Asked i) slot source (asking i target)

  abbrev pub ClaimKeeps : Type 0
  ClaimKeeps = InOrderHas V λ facts phase slot source target.
      (i : ℕ) → target.stage ≡ TargetStage.holding i
      → Keeps facts phase Claim (Wanted i) slot source (claiming i target)

  abbrev pub ReleaseKeeps : Type 0
  ReleaseKeeps = InOrderHas V λ facts phase slot source target.
      (i : ℕ) → target.stage ≡ TargetStage.holding i
      → Keeps facts phase Release (Postponed i) slot source (releasing i target)

  abbrev pub OpenKeeps : Type 0
  OpenKeeps = InOrderHas V λ facts phase slot source target.
      (i : ℕ) → target.stage ≡ TargetStage.arrived i → Opens facts phase i slot source target

  abbrev pub CloseKeeps : Type 0
  CloseKeeps = InOrderHas V λ facts phase slot source target.
      (i : ℕ) (value : V) → target.stage ≡ TargetStage.hand i value
      → Keeps facts phase Close Idle slot source (closing value target)

-- all moves of an end
pub record SourceMovesKeep (V : Type 0) : Type 0 where
  pub offer : OfferKeeps V
  pub post : PostKeeps V
  pub ends : EndKeeps V
  pub fill : FillKeeps V
  pub give : GiveKeeps V
  pub give_at_once : GiveAtOnceKeeps V
  pub deny : DenyKeeps V
  pub hold : HoldKeeps V
  pub withdraw : WithdrawKeeps V

pub record TargetMovesKeep (V : Type 0) : Type 0 where
  pub want : WantKeeps V
  pub turn_down : TurnDownKeeps V
  pub postpone : PostponeKeeps V
  pub refuse : RefuseKeeps V
  pub refuse_postponed : RefusePostponedKeeps V
  pub consume : ConsumeKeeps V
  pub ask : AskKeeps V
  pub claim : ClaimKeeps V
  pub release : ReleaseKeeps V
  pub «open» : OpenKeeps V
  pub close : CloseKeeps V
