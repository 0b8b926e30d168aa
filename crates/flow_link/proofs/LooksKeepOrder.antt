-- A look of either end keeps a link in order.
use Rattle.std.proofs.Common.{◌≡◌, ℕ, inl, inr, zero-le, Option, Some, None, refl, ap}
use Rattle.flow_link.specs.declared.phase.Phase.{Phase}
use Rattle.flow_link.specs.declared.phase.Phase.TheVariants.{Idle, Posted, Offered, Postponed, Wanted, Given, Opened, Asked, Held, Refused, Ended}
use Rattle.flow_link.specs.Views.{SourceStage, TargetStage, SourceView, TargetView, LinkFacts}
use Rattle.flow_link.specs.LinkOk.{StandAt, LinkOk, IsWithin}
use Rattle.flow_link.specs.Looks.{source_finds, target_finds}
use Rattle.flow_link.specs.LooksKeep.{LookOutKeeps, LookInKeeps, LooksSettle, SeenAt, SeenTells, OwnMovesAreSeen, FreshIsOk, LooksKeep}
use Rattle.flow_link.specs.Moves.{source_at, target_at}

-- Each lemma goes by the phases that change the stage; at those, by the other end's stage.
module _ {V : Type 0} (facts : LinkFacts) (slot : Option V) (source : SourceView V) (target : TargetView V) where
  -- a link in order with these stages
  abbrev Stands : Phase → SourceStage → TargetStage V → Type 0
  Stands phase s t = LinkOk facts phase slot (source_at s source) (target_at t target)

  -- what a source's look has to show
  abbrev OutKeeps : SourceStage → Phase → TargetStage V → Type 0
  OutKeeps s phase t = Stands phase s t → Stands phase (source_finds s phase) t

  out_looks : (phase : Phase) (t : TargetStage V) (i : ℕ) → OutKeeps (SourceStage.out i) phase t
  out_looks (Wanted j) (TargetStage.accepted k) i ok = assumption
  out_looks (Wanted j) (TargetStage.consuming k) i ok = assumption
  out_looks (Wanted j) _ i ok = absurd ok.stages
  out_looks (Postponed j) (TargetStage.postponed k) i ok = assumption
  out_looks (Postponed j) _ i ok = absurd ok.stages
  out_looks (Asked j) (TargetStage.asking k) i ok = assumption
  out_looks (Asked j) _ i ok = absurd ok.stages
  out_looks Refused (TargetStage.refused why) i ok = assumption
  out_looks Refused _ i ok = absurd ok.stages
  out_looks _ t i ok = ok

  posted_looks : (phase : Phase) (t : TargetStage V) (i : ℕ) → OutKeeps (SourceStage.posted i) phase t
  posted_looks (Wanted j) (TargetStage.accepted k) i ok = assumption
  posted_looks (Wanted j) _ i ok = absurd ok.stages
  posted_looks Idle TargetStage.free i ok = assumption
  posted_looks Idle _ i ok = absurd ok.stages
  posted_looks Refused (TargetStage.refused why) i ok = assumption
  posted_looks Refused _ i ok = absurd ok.stages
  posted_looks _ t i ok = ok

  waiting_looks : (phase : Phase) (t : TargetStage V) (i : ℕ) → OutKeeps (SourceStage.waiting i) phase t
  waiting_looks (Wanted j) (TargetStage.consuming k) i ok = assumption
  waiting_looks (Wanted j) _ i ok = absurd ok.stages
  waiting_looks (Asked j) (TargetStage.asking k) i ok = assumption
  waiting_looks (Asked j) _ i ok = absurd ok.stages
  waiting_looks Refused (TargetStage.refused why) i ok = assumption
  waiting_looks Refused _ i ok = absurd ok.stages
  waiting_looks _ t i ok = ok

  reserved_looks : (phase : Phase) (t : TargetStage V) (i : ℕ) → OutKeeps (SourceStage.reserved i) phase t
  reserved_looks (Wanted j) (TargetStage.claiming k) i ok = assumption
  reserved_looks (Wanted j) _ i ok = absurd ok.stages
  reserved_looks (Postponed j) (TargetStage.postponed k) i ok = assumption
  reserved_looks (Postponed j) _ i ok = absurd ok.stages
  reserved_looks (Asked j) (TargetStage.asking k) i ok = assumption
  reserved_looks (Asked j) _ i ok = absurd ok.stages
  reserved_looks Refused (TargetStage.refused why) i ok = assumption
  reserved_looks Refused _ i ok = absurd ok.stages
  reserved_looks _ t i ok = ok

  crossing_looks : (phase : Phase) (t : TargetStage V) → OutKeeps SourceStage.crossing phase t
  crossing_looks Idle TargetStage.free ok = assumption
  crossing_looks Idle _ ok = absurd ok.stages
  crossing_looks _ t ok = ok

  looks_out : (s : SourceStage) (phase : Phase) (t : TargetStage V) → OutKeeps s phase t
  looks_out (SourceStage.out i) phase t ok = out_looks phase t i ok
  looks_out (SourceStage.posted i) phase t ok = posted_looks phase t i ok
  looks_out (SourceStage.waiting i) phase t ok = waiting_looks phase t i ok
  looks_out (SourceStage.reserved i) phase t ok = reserved_looks phase t i ok
  looks_out SourceStage.crossing phase t ok = crossing_looks phase t ok
  looks_out _ phase t ok = ok

  -- what a target's look has to show
  abbrev InKeeps : TargetStage V → Phase → SourceStage → Type 0
  InKeeps t phase s = Stands phase s t → Stands phase s (target_finds t phase)

  free_looks : (phase : Phase) (s : SourceStage) → InKeeps TargetStage.free phase s
  free_looks (Posted j) (SourceStage.posted k) ok = assumption
  free_looks (Posted j) _ ok = absurd ok.stages
  free_looks (Offered j) (SourceStage.out k) ok = assumption
  free_looks (Offered j) _ ok = absurd ok.stages
  free_looks (Ended how) (SourceStage.ended mine) ok = assumption
  free_looks (Ended how) _ ok = absurd ok.stages
  free_looks _ s ok = ok

  postponed_looks : (phase : Phase) (s : SourceStage) (i : ℕ) → InKeeps (TargetStage.postponed i) phase s
  postponed_looks Idle SourceStage.free i ok = assumption
  postponed_looks Idle _ i ok = absurd ok.stages
  postponed_looks (Posted j) (SourceStage.posted k) i ok = assumption
  postponed_looks (Posted j) _ i ok = absurd ok.stages
  postponed_looks (Offered j) (SourceStage.out k) i ok = assumption
  postponed_looks (Offered j) _ i ok = absurd ok.stages
  postponed_looks (Ended how) (SourceStage.ended mine) i ok = assumption
  postponed_looks (Ended how) _ i ok = absurd ok.stages
  postponed_looks _ s i ok = ok

  consuming_looks : (phase : Phase) (s : SourceStage) (i : ℕ) → InKeeps (TargetStage.consuming i) phase s
  consuming_looks Idle SourceStage.free i ok = assumption
  consuming_looks Idle _ i ok = absurd ok.stages
  consuming_looks (Posted j) (SourceStage.posted k) i ok = assumption
  consuming_looks (Posted j) _ i ok = absurd ok.stages
  consuming_looks (Offered j) (SourceStage.out k) i ok = assumption
  consuming_looks (Offered j) _ i ok = absurd ok.stages
  consuming_looks (Given j) SourceStage.crossing i ok = assumption
  consuming_looks (Given j) _ i ok = absurd ok.stages
  consuming_looks (Ended how) (SourceStage.ended mine) i ok = assumption
  consuming_looks (Ended how) _ i ok = absurd ok.stages
  consuming_looks _ s i ok = ok

  asking_looks : (phase : Phase) (s : SourceStage) (i : ℕ) → InKeeps (TargetStage.asking i) phase s
  asking_looks Idle SourceStage.free i ok = assumption
  asking_looks Idle _ i ok = absurd ok.stages
  asking_looks (Posted j) (SourceStage.posted k) i ok = assumption
  asking_looks (Posted j) _ i ok = absurd ok.stages
  asking_looks (Offered j) (SourceStage.out k) i ok = assumption
  asking_looks (Offered j) _ i ok = absurd ok.stages
  asking_looks (Held j) (SourceStage.reserved k) i ok = assumption
  asking_looks (Held j) _ i ok = absurd ok.stages
  asking_looks (Ended how) (SourceStage.ended mine) i ok = assumption
  asking_looks (Ended how) _ i ok = absurd ok.stages
  asking_looks _ s i ok = ok

  accepted_looks : (phase : Phase) (s : SourceStage) (i : ℕ) → InKeeps (TargetStage.accepted i) phase s
  accepted_looks (Given j) SourceStage.crossing i ok = assumption
  accepted_looks (Given j) _ i ok = absurd ok.stages
  accepted_looks _ s i ok = ok

  claiming_looks : (phase : Phase) (s : SourceStage) (i : ℕ) → InKeeps (TargetStage.claiming i) phase s
  claiming_looks (Given j) SourceStage.crossing i ok = assumption
  claiming_looks (Given j) _ i ok = absurd ok.stages
  claiming_looks _ s i ok = ok

  looks_in : (t : TargetStage V) (phase : Phase) (s : SourceStage) → InKeeps t phase s
  looks_in TargetStage.free phase s ok = free_looks phase s ok
  looks_in (TargetStage.postponed i) phase s ok = postponed_looks phase s i ok
  looks_in (TargetStage.consuming i) phase s ok = consuming_looks phase s i ok
  looks_in (TargetStage.asking i) phase s ok = asking_looks phase s i ok
  looks_in (TargetStage.accepted i) phase s ok = accepted_looks phase s i ok
  looks_in (TargetStage.claiming i) phase s ok = claiming_looks phase s i ok
  looks_in _ phase s ok = ok

-- a second look finds nothing new
source_settles : (s : SourceStage) (phase : Phase) → source_finds (source_finds s phase) phase ≡ source_finds s phase
source_settles (SourceStage.out i) Idle = refl
source_settles _ Idle = refl
source_settles _ _ = refl

module _ {V : Type 0} where
  target_settles : (t : TargetStage V) (phase : Phase) → target_finds (target_finds t phase) phase ≡ target_finds t phase
  target_settles TargetStage.free Idle = refl
  target_settles _ Idle = refl
  target_settles _ _ = refl

-- both ends have seen the phase, or a look would change a stage
module _ (V : Type 0) where
  seen_at : (phase : Phase) (s : SourceStage) (t : TargetStage V) → StandAt phase s t
      → source_finds s phase ≡ s → target_finds t phase ≡ t → SeenAt phase s t
  seen_at Idle SourceStage.free TargetStage.free h a b = (refl, refl)
  seen_at Idle SourceStage.free (TargetStage.postponed _) h a b = absurd cc
  seen_at Idle SourceStage.free (TargetStage.consuming _) h a b = absurd cc
  seen_at Idle SourceStage.free (TargetStage.asking _) h a b = absurd cc
  seen_at Idle SourceStage.crossing TargetStage.free h a b = absurd cc
  seen_at Idle (SourceStage.posted _) TargetStage.free h a b = absurd cc
  seen_at (Posted i) (SourceStage.posted j) TargetStage.free h a b = absurd cc
  seen_at (Posted i) (SourceStage.posted j) (TargetStage.posted k) h a b = (ap SourceStage.posted h.0, ap TargetStage.posted h.1)
  seen_at (Posted i) (SourceStage.posted j) (TargetStage.postponed _) h a b = absurd cc
  seen_at (Posted i) (SourceStage.posted j) (TargetStage.consuming _) h a b = absurd cc
  seen_at (Posted i) (SourceStage.posted j) (TargetStage.asking _) h a b = absurd cc
  seen_at (Offered i) (SourceStage.out j) TargetStage.free h a b = absurd cc
  seen_at (Offered i) (SourceStage.out j) (TargetStage.offered k) h a b = (ap SourceStage.out h.0, ap TargetStage.offered h.1)
  seen_at (Offered i) (SourceStage.out j) (TargetStage.postponed _) h a b = absurd cc
  seen_at (Offered i) (SourceStage.out j) (TargetStage.consuming _) h a b = absurd cc
  seen_at (Offered i) (SourceStage.out j) (TargetStage.asking _) h a b = absurd cc
  seen_at (Postponed i) (SourceStage.out j) (TargetStage.postponed k) h a b = absurd cc
  seen_at (Postponed i) (SourceStage.waiting j) (TargetStage.postponed k) h a b = (ap SourceStage.waiting h.0, ap TargetStage.postponed h.1)
  seen_at (Postponed i) (SourceStage.reserved j) (TargetStage.postponed k) h a b = absurd cc
  seen_at (Wanted i) (SourceStage.posted j) (TargetStage.accepted k) h a b = absurd cc
  seen_at (Wanted i) (SourceStage.out j) (TargetStage.accepted k) h a b = absurd cc
  seen_at (Wanted i) (SourceStage.accepted j) (TargetStage.accepted k) h a b = (inl (ap SourceStage.accepted h.0), inl (ap TargetStage.accepted h.1))
  seen_at (Wanted i) (SourceStage.filling j) (TargetStage.accepted k) h a b = (inr (inr (inr (ap SourceStage.filling h.0))), inl (ap TargetStage.accepted h.1))
  seen_at (Wanted i) (SourceStage.out j) (TargetStage.consuming k) h a b = absurd cc
  seen_at (Wanted i) (SourceStage.accepted j) (TargetStage.consuming k) h a b = (inl (ap SourceStage.accepted h.0), inr (inl (ap TargetStage.consuming h.1)))
  seen_at (Wanted i) (SourceStage.waiting j) (TargetStage.consuming k) h a b = absurd cc
  seen_at (Wanted i) (SourceStage.wished j) (TargetStage.consuming k) h a b = (inr (inl (ap SourceStage.wished h.0)), inr (inl (ap TargetStage.consuming h.1)))
  seen_at (Wanted i) (SourceStage.filling j) (TargetStage.consuming k) h a b = (inr (inr (inr (ap SourceStage.filling h.0))), inr (inl (ap TargetStage.consuming h.1)))
  seen_at (Wanted i) (SourceStage.reserved j) (TargetStage.claiming k) h a b = absurd cc
  seen_at (Wanted i) (SourceStage.claimed j) (TargetStage.claiming k) h a b = (inr (inr (inl (ap SourceStage.claimed h.0))), inr (inr (ap TargetStage.claiming h.1)))
  seen_at (Wanted i) (SourceStage.filling j) (TargetStage.claiming k) h a b = (inr (inr (inr (ap SourceStage.filling h.0))), inr (inr (ap TargetStage.claiming h.1)))
  seen_at (Given i) SourceStage.crossing (TargetStage.accepted k) h a b = absurd cc
  seen_at (Given i) SourceStage.crossing (TargetStage.consuming k) h a b = absurd cc
  seen_at (Given i) SourceStage.crossing (TargetStage.claiming k) h a b = absurd cc
  seen_at (Given i) SourceStage.crossing (TargetStage.arrived k) h a b = (refl, ap TargetStage.arrived h)
  seen_at (Opened i) SourceStage.crossing (TargetStage.hand k value) h a b = (refl, (value, ap (λ n. TargetStage.hand n value) h))
  seen_at (Asked i) (SourceStage.out j) (TargetStage.asking k) h a b = absurd cc
  seen_at (Asked i) (SourceStage.waiting j) (TargetStage.asking k) h a b = absurd cc
  seen_at (Asked i) (SourceStage.asked_by j) (TargetStage.asking k) h a b = (ap SourceStage.asked_by h.0, ap TargetStage.asking h.1)
  seen_at (Asked i) (SourceStage.reserved j) (TargetStage.asking k) h a b = absurd cc
  seen_at (Held i) (SourceStage.reserved j) (TargetStage.asking k) h a b = absurd cc
  seen_at (Held i) (SourceStage.reserved j) (TargetStage.holding k) h a b = (ap SourceStage.reserved h.0, ap TargetStage.holding h.1)
  seen_at Refused (SourceStage.out _) (TargetStage.refused why) h a b = absurd cc
  seen_at Refused (SourceStage.posted _) (TargetStage.refused why) h a b = absurd cc
  seen_at Refused (SourceStage.waiting _) (TargetStage.refused why) h a b = absurd cc
  seen_at Refused (SourceStage.reserved _) (TargetStage.refused why) h a b = absurd cc
  seen_at Refused SourceStage.refused (TargetStage.refused why) h a b = (refl, (why, refl))
  seen_at (Ended how) (SourceStage.ended mine) TargetStage.free h a b = absurd cc
  seen_at (Ended how) (SourceStage.ended mine) (TargetStage.ended yours) h a b = (ap SourceStage.ended h.0, ap TargetStage.ended h.1)
  seen_at (Ended how) (SourceStage.ended mine) (TargetStage.postponed _) h a b = absurd cc
  seen_at (Ended how) (SourceStage.ended mine) (TargetStage.consuming _) h a b = absurd cc
  seen_at (Ended how) (SourceStage.ended mine) (TargetStage.asking _) h a b = absurd cc
  seen_at _ _ _ h a b = absurd h

none_within : (max : Option ℕ) → IsWithin max 0
none_within None = tt
none_within (Some max) = zero-le

module _ (V : Type 0) where
  pub look_out_keeps : LookOutKeeps V
  look_out_keeps facts phase slot source target ok = looks_out facts slot source target source.stage phase target.stage ok

  look_in_keeps : LookInKeeps V
  look_in_keeps facts phase slot source target ok = looks_in facts slot source target target.stage phase source.stage ok

  looks_settle : LooksSettle V
  looks_settle phase source target = record {
    by_source = source_settles source.stage phase;
    by_target = target_settles target.stage phase;
  }

  seen_tells : SeenTells V
  seen_tells facts phase slot source target ok seen =
      seen_at V phase source.stage target.stage ok.stages seen.by_source seen.by_target

  own_moves_are_seen : OwnMovesAreSeen V
  own_moves_are_seen = record {
    offer = λ i view. refl;
    post = λ i view. refl;
    ends = λ how view. refl;
    fill = λ i view. refl;
    give = λ i value view. refl;
    deny = λ view. refl;
    hold = λ i view. refl;
    withdraw = λ view. refl;
    want = λ i view. refl;
    turn_down = λ view. refl;
    refuse = λ why view. refl;
    postpone = λ i view. refl;
    consume = λ i view. refl;
    ask = λ i view. refl;
    claim = λ i view. refl;
    release = λ i view. refl;
    «open» = λ i value view. refl;
    close = λ value view. refl;
  }

  fresh_is_ok : FreshIsOk V
  fresh_is_ok = record {
    in_order = λ facts. record {
      same_start = refl;
      stages = tt;
      ids = tt;
      values = record { empty = refl; all = refl };
      plan = record { put_off = tt; freely = tt; reserved = tt; within = none_within facts.max; room = tt; ends = tt };
    };
    seen = record { by_source = refl; by_target = refl };
  }

  pub looks_keep : LooksKeep V
  looks_keep = record {
    out_keeps = look_out_keeps;
    in_keeps = look_in_keeps;
    settle = looks_settle;
    seen_tells = seen_tells;
    own_moves = own_moves_are_seen;
    fresh = fresh_is_ok;
  }
