-- What the tests of the stages at which an end moves tell, and that a stage stands so in the model where it does in the program.
use Rattle.std.proofs.Common.{◌≡◌, ◌⊎◌, ℕ, ◌==◌, not, Bool, true, Option, is_some, refl, sym, inl, inr, eqb-true}
use Rattle.std.proofs.lemmas.Bool.{and_parts}
use Rattle.flow_value.specs.declared.value.Value.{Value}
use Rattle.flow_link.specs.declared.stage.SourceStage.{SourceStage as SourceKept}
use Rattle.flow_link.specs.declared.stage.SourceStage.TheVariants as source
use Rattle.flow_link.specs.declared.stage.TargetStage.{TargetStage as TargetKept}
use Rattle.flow_link.specs.declared.stage.TargetStage.TheVariants as target
use Rattle.flow_link.specs.Stage.{source_stage_of, target_stage_of}
use Rattle.flow_link.specs.Views.{SourceStage, TargetStage}
use Rattle.flow_intake.specs.Calls.{message_of, may_be_refused, is_arrived}
use Rattle.flow_intake.specs.Calls as port
use Rattle.flow_intake.specs.Port.{is_offer, is_hand}
use Rattle.flow_intake.specs.Port as kept
use Rattle.flow_outlet.specs.End.{is_free}
use Rattle.flow_outlet.specs.End as end
use Rattle.flow_outlet.specs.Outlet.{is_wish}
use Rattle.flow_outlet.specs.Outlet as outlet
use Rattle.flow_spread.specs.Spread.{asked_id, is_asked_by}
use Rattle.flow_spread.specs.Spread as spread
use Rattle.flow_core.specs.MovesFit.{message_out, is_to_fill, is_asked, may_deny, is_waiting, message_in, to_answer, is_offered, is_posted, is_postponed, may_refuse, is_holding, has_arrived, has_in_hand}

-- Of a source

pub to_fill_is : (stage : SourceStage) → is_to_fill stage ≡ true
    → (stage ≡ SourceStage.accepted (message_out stage))
    ⊎ (stage ≡ SourceStage.wished (message_out stage))
    ⊎ (stage ≡ SourceStage.claimed (message_out stage))
to_fill_is (SourceStage.accepted i) e = inl refl
to_fill_is (SourceStage.wished i) e = inr (inl refl)
to_fill_is (SourceStage.claimed i) e = inr (inr refl)
to_fill_is _ e = absurd (cc)

pub asked_is : (stage : SourceStage) → is_asked stage ≡ true → stage ≡ SourceStage.asked_by (message_out stage)
asked_is (SourceStage.asked_by i) e = refl
asked_is _ e = absurd (cc)

pub may_deny_is : (stage : SourceStage) → may_deny stage ≡ true
    → (stage ≡ SourceStage.wished (message_out stage)) ⊎ (stage ≡ SourceStage.asked_by (message_out stage))
may_deny_is (SourceStage.wished i) e = inl refl
may_deny_is (SourceStage.asked_by i) e = inr refl
may_deny_is _ e = absurd (cc)

pub waiting_is : (stage : SourceStage) → is_waiting stage ≡ true → stage ≡ SourceStage.waiting (message_out stage)
waiting_is (SourceStage.waiting i) e = refl
waiting_is _ e = absurd (cc)

-- Of a target

module _ {V : Type 0} where
  pub to_answer_is : (stage : TargetStage V) → is_some (to_answer stage) ≡ true
      → (stage ≡ TargetStage.offered (message_in stage)) ⊎ (stage ≡ TargetStage.posted (message_in stage))
  to_answer_is (TargetStage.offered i) e = inl refl
  to_answer_is (TargetStage.posted i) e = inr refl
  to_answer_is _ e = absurd (cc)

  pub offered_is : (stage : TargetStage V) → is_offered stage ≡ true → stage ≡ TargetStage.offered (message_in stage)
  offered_is (TargetStage.offered i) e = refl
  offered_is _ e = absurd (cc)

  pub posted_is : (stage : TargetStage V) → is_posted stage ≡ true → stage ≡ TargetStage.posted (message_in stage)
  posted_is (TargetStage.posted i) e = refl
  posted_is _ e = absurd (cc)

  pub postponed_is : (stage : TargetStage V) → is_postponed stage ≡ true → stage ≡ TargetStage.postponed (message_in stage)
  postponed_is (TargetStage.postponed i) e = refl
  postponed_is _ e = absurd (cc)

  -- what may be refused is not answered yet, or was postponed
  pub may_refuse_is : (stage : TargetStage V) → may_refuse stage ≡ true
      → (is_some (to_answer stage) ≡ true) ⊎ (stage ≡ TargetStage.postponed (message_in stage))
  may_refuse_is (TargetStage.offered i) e = inl refl
  may_refuse_is (TargetStage.posted i) e = inl refl
  may_refuse_is (TargetStage.postponed i) e = inr refl
  may_refuse_is _ e = absurd (cc)

  pub holding_is : (stage : TargetStage V) → is_holding stage ≡ true → stage ≡ TargetStage.holding (message_in stage)
  holding_is (TargetStage.holding i) e = refl
  holding_is _ e = absurd (cc)

  pub arrived_is : (stage : TargetStage V) → has_arrived stage ≡ true → stage ≡ TargetStage.arrived (message_in stage)
  arrived_is (TargetStage.arrived i) e = refl
  arrived_is _ e = absurd (cc)

-- What the program keeps of a source's stage

pub is_at_home : (stage : SourceKept) → is_free stage ≡ true → source_stage_of stage ≡ SourceStage.free
is_at_home source.Free e = refl
is_at_home _ e = absurd (cc)

-- what is wanted is the message with this id, whether it is the head or an element
pub wanted_so : (next : ℕ) (out : Bool) (stage : SourceKept) → outlet.is_wanted next out stage ≡ true
    → spread.is_wanted next stage ≡ true
wanted_so next out (source.Accepted i) e = e
wanted_so next out (source.Wished i) e = (and_parts (i == next) (not out) e).0
wanted_so next out (source.Claimed i) e = e
wanted_so next out _ e = absurd (cc)

pub wanted_fills : (id : ℕ) (stage : SourceKept) → spread.is_wanted id stage ≡ true → is_to_fill (source_stage_of stage) ≡ true
wanted_fills id (source.Accepted i) e = refl
wanted_fills id (source.Wished i) e = refl
wanted_fills id (source.Claimed i) e = refl
wanted_fills id _ e = absurd (cc)

pub wanted_message : (id : ℕ) (stage : SourceKept) → spread.is_wanted id stage ≡ true → id ≡ message_out (source_stage_of stage)
wanted_message id (source.Accepted i) e = sym (eqb-true i id e)
wanted_message id (source.Wished i) e = sym (eqb-true i id e)
wanted_message id (source.Claimed i) e = sym (eqb-true i id e)
wanted_message id _ e = absurd (cc)

pub asks_so : (next : ℕ) (stage : SourceKept) → outlet.is_asked next stage ≡ true → is_asked_by stage ≡ true
asks_so next (source.AskedBy i) e = refl
asks_so next _ e = absurd (cc)

pub asks_message : (next : ℕ) (stage : SourceKept) → outlet.is_asked next stage ≡ true → next ≡ message_out (source_stage_of stage)
asks_message next (source.AskedBy i) e = sym (eqb-true i next e)
asks_message next _ e = absurd (cc)

pub asked_kept : (stage : SourceKept) → is_asked_by stage ≡ true → is_asked (source_stage_of stage) ≡ true
asked_kept (source.AskedBy i) e = refl
asked_kept _ e = absurd (cc)

pub asked_message : (stage : SourceKept) → is_asked_by stage ≡ true → asked_id stage ≡ message_out (source_stage_of stage)
asked_message (source.AskedBy i) e = refl
asked_message _ e = absurd (cc)

pub wish_denied : (stage : SourceKept) → is_wish stage ≡ true → may_deny (source_stage_of stage) ≡ true
wish_denied (source.Wished i) e = refl
wish_denied (source.AskedBy i) e = refl
wish_denied _ e = absurd (cc)

pub waits_kept : (stage : SourceKept) → end.is_waiting stage ≡ true → is_waiting (source_stage_of stage) ≡ true
waits_kept (source.Waiting i) e = refl
waits_kept _ e = absurd (cc)

-- What it keeps of a target's
module _ (hand : Option Value) where
  pub message_kept : (stage : TargetKept) → message_of stage ≡ message_in (target_stage_of stage hand)
  message_kept target.Free = refl
  message_kept _ = refl

  pub offer_kept : (stage : TargetKept) → is_offer stage ≡ true → is_some (to_answer (target_stage_of stage hand)) ≡ true
  offer_kept (target.Offered i) e = refl
  offer_kept (target.Posted i) e = refl
  offer_kept _ e = absurd (cc)

  pub offered_kept : (stage : TargetKept) → port.is_offered stage ≡ true → is_offered (target_stage_of stage hand) ≡ true
  offered_kept (target.Offered i) e = refl
  offered_kept _ e = absurd (cc)

  pub posted_kept : (stage : TargetKept) → port.is_posted stage ≡ true → is_posted (target_stage_of stage hand) ≡ true
  posted_kept (target.Posted i) e = refl
  posted_kept _ e = absurd (cc)

  pub postponed_kept : (stage : TargetKept) → port.is_postponed stage ≡ true → is_postponed (target_stage_of stage hand) ≡ true
  postponed_kept (target.Postponed i) e = refl
  postponed_kept _ e = absurd (cc)

  pub refused_kept : (stage : TargetKept) → may_be_refused stage ≡ true → may_refuse (target_stage_of stage hand) ≡ true
  refused_kept (target.Offered i) e = refl
  refused_kept (target.Posted i) e = refl
  refused_kept (target.Postponed i) e = refl
  refused_kept _ e = absurd (cc)

  pub holding_kept : (stage : TargetKept) → kept.is_holding stage ≡ true → is_holding (target_stage_of stage hand) ≡ true
  holding_kept (target.Holding i) e = refl
  holding_kept _ e = absurd (cc)

  pub arrived_kept : (stage : TargetKept) → is_arrived stage ≡ true → has_arrived (target_stage_of stage hand) ≡ true
  arrived_kept (target.Arrived i) e = refl
  arrived_kept _ e = absurd (cc)

  pub hand_kept : (stage : TargetKept) → is_hand stage ≡ true → has_in_hand (target_stage_of stage hand) ≡ true
  hand_kept (target.Hand i) e = refl
  hand_kept _ e = absurd (cc)
