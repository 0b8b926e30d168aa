-- Each move of the target's end keeps a link in order.
use Rattle.std.proofs.Common.{◌≡◌, ℕ, ◌<◌, ◌≤◌, true, false, Option, Some, None, refl, ap, sym, subst, arith, ⊎_elim, ◌∙◌}
use Rattle.flow_link.specs.declared.phase.Phase.{Phase}
use Rattle.flow_link.specs.declared.phase.Phase.TheVariants.{Idle, Posted, Offered, Postponed, Wanted, Given, Opened, Asked, Held, Refused}
use Rattle.flow_link.specs.declared.phase.Move.{Move}
use Rattle.flow_link.specs.declared.phase.Move.TheVariants.{Want, TurnDown, Refuse, Postpone, Consume, Close, Ask, Claim, Release}
use Rattle.flow_link.specs.Views.{SourceStage, TargetStage, Refusal, SourceView, TargetView, LinkFacts, crossed, crossed_in}
use Rattle.flow_link.specs.LinkOk.{LinkOk, AsPlanned, IsInSlot}
use Rattle.flow_link.specs.Moves.{source_at, target_at, closing}
use Rattle.flow_link.specs.MovesKeep.{Keeps, Opens, WantKeeps, TurnDownKeeps, PostponeKeeps, RefuseKeeps, RefusePostponedKeeps, ConsumeKeeps, AskKeeps, ClaimKeeps, ReleaseKeeps, OpenKeeps, CloseKeeps, TargetMovesKeep}

-- Each proof goes by the phase and the source's stage: `LinkOk` leaves few of them, where the target's stage is known.
-- A clause at a stage that is not among them lets every stage be told apart.
module _ {V : Type 0} (facts : LinkFacts) (slot : Option V) (source : SourceView V) (target : TargetView V) where
  -- a link in order with these stages
  abbrev Stands : Phase → SourceStage → TargetStage V → Type 0
  Stands phase s t = LinkOk facts phase slot (source_at s source) (target_at t target)

  -- what a move has to show
  abbrev Leads : Phase → Move → Phase → SourceStage → TargetStage V → Type 0
  Leads phase step after s t = Keeps facts phase step after slot (source_at s source) (target_at t target)

  wants_offered : (phase : Phase) (s : SourceStage) (i : ℕ) → facts.reserving ≡ false
      → Stands phase s (TargetStage.offered i) → Leads phase Want (Wanted i) s (TargetStage.accepted i)
  wants_offered (Offered j) (SourceStage.out k) i not_reserving ok =
      let allowed = ap (λ n. Some (Wanted n)) (sym ok.stages.1) in
      let same : k ≡ i = cc in
      let rises : source.last < i = omega arith in
      assumption
  wants_offered _ SourceStage.free i _ ok = absurd ok.stages
  wants_offered _ _ i _ ok = absurd ok.stages

  wants_posted : (phase : Phase) (s : SourceStage) (i : ℕ) → facts.reserving ≡ false
      → Stands phase s (TargetStage.posted i) → Leads phase Want (Wanted i) s (TargetStage.accepted i)
  wants_posted (Posted j) (SourceStage.posted k) i not_reserving ok =
      let allowed = ap (λ n. Some (Wanted n)) (sym ok.stages.1) in
      let same : k ≡ i = cc in
      let rises : source.last < i = omega arith in
      assumption
  wants_posted _ SourceStage.free i _ ok = absurd ok.stages
  wants_posted _ _ i _ ok = absurd ok.stages

  turns_down : (phase : Phase) (s : SourceStage) (i : ℕ)
      → Stands phase s (TargetStage.posted i) → Leads phase TurnDown Idle s TargetStage.free
  turns_down (Posted j) (SourceStage.posted k) i ok = assumption
  turns_down _ SourceStage.free i ok = absurd ok.stages
  turns_down _ _ i ok = absurd ok.stages

  postpones : (phase : Phase) (s : SourceStage) (i : ℕ) → facts.steady ≡ false → (facts.sole ≡ true → 1 ≤ crossed_in target)
      → Stands phase s (TargetStage.offered i) → Leads phase Postpone (Postponed i) s (TargetStage.postponed i)
  postpones (Offered j) (SourceStage.out k) i not_steady taken ok = record {
    allowed = ap (λ n. Some (Postponed n)) (sym ok.stages.1);
    in_order = record {
      same_start = ok.same_start;
      stages = (cc, refl);
      ids = omega arith;
      values = ok.values;
      plan = record {
        put_off = record { not_steady = not_steady; not_the_first = λ is_sole. rw (ok.same_start, ok.values.all) (taken is_sole) };
        freely = tt;
        reserved = tt;
        within = ok.plan.within;
        room = ok.plan.room;
        ends = tt;
      };
    };
  }
  postpones _ SourceStage.free i _ _ ok = absurd ok.stages
  postpones _ _ i _ _ ok = absurd ok.stages

  refuses_offered : (phase : Phase) (s : SourceStage) (i : ℕ) (why : Refusal)
      → Stands phase s (TargetStage.offered i) → Leads phase Refuse Refused s (TargetStage.refused why)
  refuses_offered (Offered j) (SourceStage.out k) i why ok = assumption
  refuses_offered _ SourceStage.free i why ok = absurd ok.stages
  refuses_offered _ _ i why ok = absurd ok.stages

  refuses_posted : (phase : Phase) (s : SourceStage) (i : ℕ) (why : Refusal)
      → Stands phase s (TargetStage.posted i) → Leads phase Refuse Refused s (TargetStage.refused why)
  refuses_posted (Posted j) (SourceStage.posted k) i why ok = assumption
  refuses_posted _ SourceStage.free i why ok = absurd ok.stages
  refuses_posted _ _ i why ok = absurd ok.stages

  refuses_postponed : (s : SourceStage) (i : ℕ) (why : Refusal)
      → Stands (Postponed i) s (TargetStage.postponed i) → Leads (Postponed i) Refuse Refused s (TargetStage.refused why)
  refuses_postponed (SourceStage.out k) i why ok = assumption
  refuses_postponed (SourceStage.waiting k) i why ok = assumption
  refuses_postponed (SourceStage.reserved k) i why ok = assumption
  refuses_postponed _ i why ok = absurd ok.stages

  consumes : (s : SourceStage) (i : ℕ) → facts.reserving ≡ false
      → Stands (Postponed i) s (TargetStage.postponed i) → Leads (Postponed i) Consume (Wanted i) s (TargetStage.consuming i)
  consumes (SourceStage.out k) i not_reserving ok = assumption
  consumes (SourceStage.waiting k) i not_reserving ok = assumption
  consumes (SourceStage.reserved k) i not_reserving ok = let is_reserving = ok.plan.reserved in absurd cc
  consumes _ i not_reserving ok = absurd ok.stages

  asks : (s : SourceStage) (i : ℕ) → facts.reserving ≡ true
      → Stands (Postponed i) s (TargetStage.postponed i) → Leads (Postponed i) Ask (Asked i) s (TargetStage.asking i)
  asks (SourceStage.out k) i is_reserving ok = assumption
  asks (SourceStage.waiting k) i is_reserving ok = assumption
  asks (SourceStage.reserved k) i is_reserving ok = assumption
  asks _ i is_reserving ok = absurd ok.stages

  claims : (phase : Phase) (s : SourceStage) (i : ℕ)
      → Stands phase s (TargetStage.holding i) → Leads phase Claim (Wanted i) s (TargetStage.claiming i)
  claims (Held j) (SourceStage.reserved k) i ok =
      let allowed = ap (λ n. Some (Wanted n)) (sym ok.stages.1) in
      let same : k ≡ i = cc in
      let rises : source.last < i = omega arith in
      assumption
  claims _ SourceStage.free i ok = absurd ok.stages
  claims _ _ i ok = absurd ok.stages

  releases : (phase : Phase) (s : SourceStage) (i : ℕ)
      → Stands phase s (TargetStage.holding i) → Leads phase Release (Postponed i) s (TargetStage.postponed i)
  releases (Held j) (SourceStage.reserved k) i ok =
      let allowed = ap (λ n. Some (Postponed n)) (sym ok.stages.1) in
      let same : k ≡ i = cc in
      let rises : source.last < i = omega arith in
      assumption
  releases _ SourceStage.free i ok = absurd ok.stages
  releases _ _ i ok = absurd ok.stages

  opens_at : (i j : ℕ) → i ≡ j → j ≡ source.last → source.before ≡ target.before → (slot : Option V) → IsInSlot slot source.given target.taken
      → AsPlanned {V = V} facts (crossed source) (Given j) SourceStage.crossing (TargetStage.arrived i)
      → Opens facts (Given j) i slot (source_at SourceStage.crossing source) target
  opens_at i j same last same_start (Some value) all_but_one plan = record {
    value = value;
    in_slot = refl;
    keeps = record {
      allowed = ap (λ n. Some (Opened n)) (sym same);
      in_order = record {
        same_start = same_start;
        stages = refl;
        ids = same ∙ last;
        values = record { empty = refl; all_but_one = all_but_one };
        plan = assumption;
      };
    };
  }
  opens_at i j same last same_start None impossible plan = absurd impossible

  opens : (phase : Phase) (s : SourceStage) (i : ℕ)
      → Stands phase s (TargetStage.arrived i) → Opens facts phase i slot (source_at s source) target
  opens (Given j) SourceStage.crossing i ok = opens_at i j ok.stages ok.ids ok.same_start slot ok.values ok.plan
  opens _ SourceStage.free i ok = absurd ok.stages
  opens _ _ i ok = absurd ok.stages

  closes : (phase : Phase) (s : SourceStage) (i : ℕ) (value : V)
      → Stands phase s (TargetStage.hand i value) → Keeps facts phase Close Idle slot (source_at s source) (closing value target)
  closes (Opened j) SourceStage.crossing i value ok = record {
    allowed = refl;
    in_order = record {
      same_start = ok.same_start;
      stages = tt;
      ids = tt;
      values = record { empty = ok.values.empty; all = ok.values.all_but_one };
      plan = assumption;
    };
  }
  closes _ SourceStage.free i value ok = absurd ok.stages
  closes _ _ i value ok = absurd ok.stages

-- a link in order, with the target's stage written out
abbrev with_target : {V : Type 0} {facts : LinkFacts} {phase : Phase} {slot : Option V} {source : SourceView V} {target : TargetView V} {stage : TargetStage V}
    → LinkOk facts phase slot source target → target.stage ≡ stage → LinkOk facts phase slot source (target_at stage target)
with_target {V} {facts} {phase} {slot} {source} {target} ok e = subst (λ t. LinkOk facts phase slot source (target_at t target)) e ok

-- the same at a phase that was found
abbrev with_both : {V : Type 0} {facts : LinkFacts} {phase found : Phase} {slot : Option V} {source : SourceView V} {target : TargetView V} {stage : TargetStage V}
    → LinkOk facts phase slot source target → target.stage ≡ stage → phase ≡ found → LinkOk facts found slot source (target_at stage target)
with_both {V} {facts} {phase} {found} {slot} {source} {target} {stage} ok e f =
    subst (λ p. LinkOk facts p slot source (target_at stage target)) f (with_target ok e)

module _ (V : Type 0) where
  want_keeps : WantKeeps V
  want_keeps facts phase slot source target ok i stage not_reserving =
      ⊎_elim
      (λ e. wants_offered facts slot source target phase source.stage i not_reserving (with_target ok e))
      (λ e. wants_posted facts slot source target phase source.stage i not_reserving (with_target ok e))
      stage

  turn_down_keeps : TurnDownKeeps V
  turn_down_keeps facts phase slot source target ok i stage =
      turns_down facts slot source target phase source.stage i (with_target ok stage)

  postpone_keeps : PostponeKeeps V
  postpone_keeps facts phase slot source target ok i stage not_steady taken =
      postpones facts slot source target phase source.stage i not_steady taken (with_target ok stage)

  refuse_keeps : RefuseKeeps V
  refuse_keeps facts phase slot source target ok i why stage =
      ⊎_elim
      (λ e. refuses_offered facts slot source target phase source.stage i why (with_target ok e))
      (λ e. refuses_posted facts slot source target phase source.stage i why (with_target ok e))
      stage

  refuse_postponed_keeps : RefusePostponedKeeps V
  refuse_postponed_keeps facts phase slot source target ok i why stage found =
      rw found (refuses_postponed facts slot source target source.stage i why (with_both ok stage found))

  consume_keeps : ConsumeKeeps V
  consume_keeps facts phase slot source target ok i stage found not_reserving =
      rw found (consumes facts slot source target source.stage i not_reserving (with_both ok stage found))

  ask_keeps : AskKeeps V
  ask_keeps facts phase slot source target ok i stage found is_reserving =
      rw found (asks facts slot source target source.stage i is_reserving (with_both ok stage found))

  claim_keeps : ClaimKeeps V
  claim_keeps facts phase slot source target ok i stage =
      claims facts slot source target phase source.stage i (with_target ok stage)

  release_keeps : ReleaseKeeps V
  release_keeps facts phase slot source target ok i stage =
      releases facts slot source target phase source.stage i (with_target ok stage)

  open_keeps : OpenKeeps V
  open_keeps facts phase slot source target ok i stage =
      opens facts slot source target phase source.stage i (with_target ok stage)

  close_keeps : CloseKeeps V
  close_keeps facts phase slot source target ok i value stage =
      closes facts slot source target phase source.stage i value (with_target ok stage)

  pub target_moves_keep : TargetMovesKeep V
  target_moves_keep = record {
    want = want_keeps;
    turn_down = turn_down_keeps;
    postpone = postpone_keeps;
    refuse = refuse_keeps;
    refuse_postponed = refuse_postponed_keeps;
    consume = consume_keeps;
    ask = ask_keeps;
    claim = claim_keeps;
    release = release_keeps;
    «open» = open_keeps;
    close = close_keeps;
  }
