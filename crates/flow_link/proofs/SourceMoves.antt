-- Each move of the source's end keeps a link in order.
use Rattle.std.proofs.Common.{◌≡◌, ℕ, ◌+◌, ◌<◌, [], ◌∷◌, ◌++◌, length, length-append, Option, Some, None, refl, ap, sym, subst, arith, ⊎_elim}
use Rattle.flow_link.specs.declared.phase.LinkEnd.{LinkEnd}
use Rattle.flow_link.specs.declared.phase.Phase.{Phase}
use Rattle.flow_link.specs.declared.phase.Phase.TheVariants.{Idle, Posted, Offered, Postponed, Wanted, Given, Asked, Held, Ended}
use Rattle.flow_link.specs.declared.phase.Move.{Move}
use Rattle.flow_link.specs.declared.phase.Move.TheVariants.{Offer, Post, Withdraw, Deny, Give, End, Hold}
use Rattle.flow_link.specs.Views.{SourceStage, TargetStage, SourceView, TargetView, LinkFacts, crossed}
use Rattle.flow_link.specs.LinkOk.{LinkOk, HasRoom, IsWithin, MayEnd, MayPutOff}
use Rattle.flow_link.specs.Moves.{source_at, target_at, filling, giving}
use Rattle.flow_link.specs.MovesKeep.{Keeps, Fills, OfferKeeps, PostKeeps, EndKeeps, FillKeeps, GiveKeeps, GiveAtOnceKeeps, DenyKeeps, HoldKeeps, WithdrawKeeps, SourceMovesKeep}

-- one value more may cross where there is room for it
within_after : (max : Option ℕ) (before count after : ℕ) → HasRoom max (before + count) → after ≡ count + 1 → IsWithin max (before + after)
within_after None before count after room more = tt
within_after (Some max) before count after room more = omega arith

-- Each proof goes by the phase and the target's stage: `LinkOk` leaves few of them, where the source's stage is known.
-- A clause at a stage that is not among them lets every stage be told apart.
module _ {V : Type 0} (facts : LinkFacts) (slot : Option V) (source : SourceView V) (target : TargetView V) where
  -- a link in order with these stages
  abbrev Stands : Phase → SourceStage → TargetStage V → Type 0
  Stands phase s t = LinkOk facts phase slot (source_at s source) (target_at t target)

  -- what a move has to show
  abbrev Leads : Phase → Move → Phase → SourceStage → TargetStage V → Type 0
  Leads phase step after s t = Keeps facts phase step after slot (source_at s source) (target_at t target)

  offers : (phase : Phase) (t : TargetStage V) (i : ℕ) → source.last < i → HasRoom facts.max (crossed source)
      → Stands phase SourceStage.free t → Leads phase (Offer i) (Offered i) (SourceStage.out i) t
  offers Idle TargetStage.free i rises room ok = assumption
  offers Idle (TargetStage.postponed k) i rises room ok = assumption
  offers Idle (TargetStage.consuming k) i rises room ok = assumption
  offers Idle (TargetStage.asking k) i rises room ok = assumption
  offers _ (TargetStage.refused _) i _ _ ok = absurd ok.stages
  offers _ _ i _ _ ok = absurd ok.stages

  posts : (phase : Phase) (t : TargetStage V) (i : ℕ) → source.last < i → HasRoom facts.max (crossed source)
      → Stands phase SourceStage.free t → Leads phase (Post i) (Posted i) (SourceStage.posted i) t
  posts Idle TargetStage.free i rises room ok = assumption
  posts Idle (TargetStage.postponed k) i rises room ok = assumption
  posts Idle (TargetStage.consuming k) i rises room ok = assumption
  posts Idle (TargetStage.asking k) i rises room ok = assumption
  posts _ (TargetStage.refused _) i _ _ ok = absurd ok.stages
  posts _ _ i _ _ ok = absurd ok.stages

  ends : (phase : Phase) (t : TargetStage V) (how : LinkEnd) → MayEnd facts (crossed source) how
      → Stands phase SourceStage.free t → Leads phase (End how) (Ended how) (SourceStage.ended how) t
  ends Idle TargetStage.free how rule ok = assumption
  ends Idle (TargetStage.postponed k) how rule ok = assumption
  ends Idle (TargetStage.consuming k) how rule ok = assumption
  ends Idle (TargetStage.asking k) how rule ok = assumption
  ends _ (TargetStage.refused _) how _ ok = absurd ok.stages
  ends _ _ how _ ok = absurd ok.stages

  fills_accepted : (phase : Phase) (t : TargetStage V) (i : ℕ)
      → Stands phase (SourceStage.accepted i) t → Fills facts phase i slot (source_at (SourceStage.filling i) source) (target_at t target)
  fills_accepted (Wanted j) (TargetStage.accepted k) i ok =
      let is_wanted = ap Wanted (sym ok.stages.0) in
      assumption
  fills_accepted (Wanted j) (TargetStage.consuming k) i ok =
      let is_wanted = ap Wanted (sym ok.stages.0) in
      assumption
  fills_accepted _ TargetStage.free i ok = absurd ok.stages
  fills_accepted _ _ i ok = absurd ok.stages

  fills_wished : (phase : Phase) (t : TargetStage V) (i : ℕ)
      → Stands phase (SourceStage.wished i) t → Fills facts phase i slot (source_at (SourceStage.filling i) source) (target_at t target)
  fills_wished (Wanted j) (TargetStage.consuming k) i ok =
      let is_wanted = ap Wanted (sym ok.stages.0) in
      assumption
  fills_wished _ TargetStage.free i ok = absurd ok.stages
  fills_wished _ _ i ok = absurd ok.stages

  fills_claimed : (phase : Phase) (t : TargetStage V) (i : ℕ)
      → Stands phase (SourceStage.claimed i) t → Fills facts phase i slot (source_at (SourceStage.filling i) source) (target_at t target)
  fills_claimed (Wanted j) (TargetStage.claiming k) i ok =
      let is_wanted = ap Wanted (sym ok.stages.0) in
      assumption
  fills_claimed _ TargetStage.free i ok = absurd ok.stages
  fills_claimed _ _ i ok = absurd ok.stages

  -- a value more was given
  one_more : (value : V) → length (source.given ++ value ∷ []) ≡ length source.given + 1
  one_more value = length-append source.given (value ∷ [])

  -- what may be put off may be so when more has crossed
  still_put_off : (value : V) → MayPutOff facts (crossed source) → MayPutOff facts (source.before + length (source.given ++ value ∷ []))
  still_put_off value may = record {
    not_steady = may.not_steady;
    not_the_first = λ is_sole. let first = may.not_the_first is_sole in omega (arith, one_more value);
  }

  gives : (phase : Phase) (t : TargetStage V) (i : ℕ) (value : V)
      → Stands phase (SourceStage.filling i) t
      → Keeps facts phase Give (Given i) (Some value) (giving i value source) (target_at t target)
  gives (Wanted j) (TargetStage.accepted k) i value ok = record {
    allowed = ap (λ n. Some (Given n)) (sym ok.stages.0);
    in_order = record {
      same_start = ok.same_start;
      stages = cc;
      ids = refl;
      values = ap (λ taken. taken ++ value ∷ []) ok.values.all;
      plan = record {
        put_off = tt;
        freely = ok.plan.freely;
        reserved = tt;
        within = within_after facts.max source.before (length source.given) _ ok.plan.room (one_more value);
        room = tt;
        ends = tt;
      };
    };
  }
  gives (Wanted j) (TargetStage.consuming k) i value ok = record {
    allowed = ap (λ n. Some (Given n)) (sym ok.stages.0);
    in_order = record {
      same_start = ok.same_start;
      stages = cc;
      ids = refl;
      values = ap (λ taken. taken ++ value ∷ []) ok.values.all;
      plan = record {
        put_off = still_put_off value ok.plan.put_off;
        freely = ok.plan.freely;
        reserved = tt;
        within = within_after facts.max source.before (length source.given) _ ok.plan.room (one_more value);
        room = tt;
        ends = tt;
      };
    };
  }
  gives (Wanted j) (TargetStage.claiming k) i value ok = record {
    allowed = ap (λ n. Some (Given n)) (sym ok.stages.0);
    in_order = record {
      same_start = ok.same_start;
      stages = cc;
      ids = refl;
      values = ap (λ taken. taken ++ value ∷ []) ok.values.all;
      plan = record {
        put_off = still_put_off value ok.plan.put_off;
        freely = tt;
        reserved = ok.plan.reserved;
        within = within_after facts.max source.before (length source.given) _ ok.plan.room (one_more value);
        room = tt;
        ends = tt;
      };
    };
  }
  gives _ TargetStage.free i value ok = absurd ok.stages
  gives _ _ i value ok = absurd ok.stages

  denies_wished : (phase : Phase) (t : TargetStage V) (i : ℕ)
      → Stands phase (SourceStage.wished i) t → Leads phase Deny Idle SourceStage.free t
  denies_wished (Wanted j) (TargetStage.consuming k) i ok = assumption
  denies_wished _ TargetStage.free i ok = absurd ok.stages
  denies_wished _ _ i ok = absurd ok.stages

  denies_asked : (phase : Phase) (t : TargetStage V) (i : ℕ)
      → Stands phase (SourceStage.asked_by i) t → Leads phase Deny Idle SourceStage.free t
  denies_asked (Asked j) (TargetStage.asking k) i ok = assumption
  denies_asked _ TargetStage.free i ok = absurd ok.stages
  denies_asked _ _ i ok = absurd ok.stages

  holds : (phase : Phase) (t : TargetStage V) (i : ℕ)
      → Stands phase (SourceStage.asked_by i) t → Leads phase Hold (Held i) (SourceStage.reserved i) t
  holds (Asked j) (TargetStage.asking k) i ok =
      let allowed = ap (λ n. Some (Held n)) (sym ok.stages.0) in
      let same : k ≡ i = cc in
      let rises : source.last < i = omega arith in
      assumption
  holds _ TargetStage.free i ok = absurd ok.stages
  holds _ _ i ok = absurd ok.stages

  withdraws : (t : TargetStage V) (i : ℕ)
      → Stands (Postponed i) (SourceStage.waiting i) t → Leads (Postponed i) Withdraw Idle SourceStage.free t
  withdraws (TargetStage.postponed k) i ok = assumption
  withdraws _ i ok = absurd ok.stages

-- a link in order, with the source's stage written out
abbrev with_source : {V : Type 0} {facts : LinkFacts} {phase : Phase} {slot : Option V} {source : SourceView V} {target : TargetView V} {stage : SourceStage}
    → LinkOk facts phase slot source target → source.stage ≡ stage → LinkOk facts phase slot (source_at stage source) target
with_source {V} {facts} {phase} {slot} {source} {target} ok e = subst (λ s. LinkOk facts phase slot (source_at s source) target) e ok

-- the same at a phase that was found
abbrev with_both : {V : Type 0} {facts : LinkFacts} {phase found : Phase} {slot : Option V} {source : SourceView V} {target : TargetView V} {stage : SourceStage}
    → LinkOk facts phase slot source target → source.stage ≡ stage → phase ≡ found → LinkOk facts found slot (source_at stage source) target
with_both {V} {facts} {phase} {found} {slot} {source} {target} {stage} ok e f =
    subst (λ p. LinkOk facts p slot (source_at stage source) target) f (with_source ok e)

module _ (V : Type 0) where
  offer_keeps : OfferKeeps V
  offer_keeps facts phase slot source target ok i stage rises room =
      offers facts slot source target phase target.stage i rises room (with_source ok stage)

  post_keeps : PostKeeps V
  post_keeps facts phase slot source target ok i stage rises room =
      posts facts slot source target phase target.stage i rises room (with_source ok stage)

  end_keeps : EndKeeps V
  end_keeps facts phase slot source target ok how stage rule =
      ends facts slot source target phase target.stage how rule (with_source ok stage)

  fill_keeps : FillKeeps V
  fill_keeps facts phase slot source target ok i stage =
      ⊎_elim
      (λ e. fills_accepted facts slot source target phase target.stage i (with_source ok e))
      (⊎_elim
      (λ e. fills_wished facts slot source target phase target.stage i (with_source ok e))
      (λ e. fills_claimed facts slot source target phase target.stage i (with_source ok e)))
      stage

  give_keeps : GiveKeeps V
  give_keeps facts phase slot source target ok i value stage =
      gives facts slot source target phase target.stage i value (with_source ok stage)

  give_at_once_keeps : GiveAtOnceKeeps V
  give_at_once_keeps facts phase slot source target ok i value stage =
      let filled = fill_keeps facts phase slot source target ok i stage in
      give_keeps facts phase slot (filling i source) target filled.in_order i value refl

  deny_keeps : DenyKeeps V
  deny_keeps facts phase slot source target ok i stage =
      ⊎_elim
      (λ e. denies_wished facts slot source target phase target.stage i (with_source ok e))
      (λ e. denies_asked facts slot source target phase target.stage i (with_source ok e))
      stage

  hold_keeps : HoldKeeps V
  hold_keeps facts phase slot source target ok i stage =
      holds facts slot source target phase target.stage i (with_source ok stage)

  withdraw_keeps : WithdrawKeeps V
  withdraw_keeps facts phase slot source target ok i stage found =
      rw found (withdraws facts slot source target target.stage i (with_both ok stage found))

  pub source_moves_keep : SourceMovesKeep V
  source_moves_keep = record {
    offer = offer_keeps;
    post = post_keeps;
    ends = end_keeps;
    fill = fill_keeps;
    give = give_keeps;
    give_at_once = give_at_once_keeps;
    deny = deny_keeps;
    hold = hold_keeps;
    withdraw = withdraw_keeps;
  }
