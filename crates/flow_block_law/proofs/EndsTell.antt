-- What an end tells of itself: how it ended, what it has seen and what it gave, as the model names that.
use Rattle.std.proofs.Common.{◌≡◌, ℕ, ◌==◌, ◌⊎◌, inl, inr, Bool, true, false, cond, is_some, List, [], ◌∷◌, length, Option, Some, None, refl, ap, ap₂, sym, ◌∙◌, arith, suc, ◌+◌, ◌<◌}
use Rattle.std.proofs.lemmas.Bool.Decides.{nat_tests}
use Rattle.flow_value.specs.declared.value.Value.{Value}
use Rattle.flow_link.specs.declared.phase.LinkEnd.TheVariants as link_end
use Rattle.flow_link.specs.declared.stage.Refusal.{Refusal}
use Rattle.flow_link.specs.declared.stage.SourceStage.{SourceStage}
use Rattle.flow_link.specs.declared.stage.SourceStage.TheVariants as source
use Rattle.flow_link.specs.declared.stage.TargetStage.{TargetStage}
use Rattle.flow_link.specs.declared.stage.TargetStage.TheVariants as target
use Rattle.flow_link.specs.declared.trace.Outcome.{Outcome}
use Rattle.flow_link.specs.declared.trace.Outcome.TheVariants as outcome
use Rattle.flow_link.specs.LinkOk.{HasRoom}
use Rattle.flow_lawful.specs.RestsByParts.{is_postponed as is_view_postponed, has_seen_end}
use Rattle.flow_lawful.specs.Composes.{has_seen_completion, has_seen_fault, is_spoken_for, is_refused_stage, is_coming}
use Rattle.flow_lawful.specs.Endings.{is_number}
use Rattle.flow_link.specs.Stage.{source_stage_of, target_stage_of, refusal_of}
use Rattle.flow_link.specs.Trace.{is_used_up}
use Rattle.flow_link.specs.Views as views
use Rattle.flow_intake.specs.Calls.{is_postponed}
use Rattle.flow_intake.specs.Port.{EndState, stage_in, count_at, is_coming as is_coming_at}
use Rattle.flow_intake.specs.Ended.{is_completion, fault_seen}
use Rattle.flow_outlet.specs.End.{is_limit, is_spoken_for as is_head_spoken_for}
use Rattle.flow_outlet.specs.Law.{is_posted, is_refused}
use Rattle.flow_outlet.specs.Outlet.{end_by}

-- an end ends as its block stopped, or plainly where it is cut
pub ended_complete : (cut passes : Bool) (stopped : Option Outcome)
    → cond cut (Some link_end.Plain) (end_by passes stopped) ≡ Some link_end.Complete → stopped ≡ Some outcome.Done
ended_complete true passes stopped e = absurd (cc)
ended_complete false passes None e = absurd (cc)
ended_complete false false (Some how) e = absurd (cc)
ended_complete false true (Some outcome.Done) e = refl
ended_complete false true (Some (outcome.Faulted n)) e = absurd (cc)

pub ended_fault : (cut passes : Bool) (stopped : Option Outcome) (number : ℕ)
    → cond cut (Some link_end.Plain) (end_by passes stopped) ≡ Some (link_end.Fault number)
    → stopped ≡ Some (outcome.Faulted number)
ended_fault true passes stopped number e = absurd (cc)
ended_fault false passes None number e = absurd (cc)
ended_fault false false (Some how) number e = absurd (cc)
ended_fault false true (Some outcome.Done) number e = absurd (cc)
ended_fault false true (Some (outcome.Faulted n)) number e =
    let same : n ≡ number = cc in
    ap (λ (m : ℕ). Some (outcome.Faulted m)) same

pub ended_plain : (cut passes : Bool) (stopped : Option Outcome)
    → cond cut (Some link_end.Plain) (end_by passes stopped) ≡ Some link_end.Plain
    → (cut ≡ true) ⊎ (is_some stopped ≡ true)
ended_plain true passes stopped e = inl refl
ended_plain false passes None e = absurd (cc)
ended_plain false passes (Some how) e = inr refl

-- an end that gave all that it may is used up, as its marks tell
pub used_up_told : (max : Option ℕ) (given : ℕ) (values : List Value) → (is_some max ≡ true → given ≡ length values)
    → is_limit max given ≡ true → is_used_up max values ≡ true
used_up_told None given values counted e = absurd (cc)
used_up_told (Some max) given values counted e = ap (λ (n : ℕ). n == max) (sym (counted refl)) ∙ e

pub limit_is : (max : Option ℕ) (given : ℕ) (values : List Value) → (is_some max ≡ true → given ≡ length values)
    → is_used_up max values ≡ true → is_limit max given ≡ true
limit_is None given values counted used = absurd (cc)
limit_is (Some max) given values counted used = ap (λ (n : ℕ). n == max) (counted refl) ∙ used

-- and then it has no room
pub no_room_left : (max : Option ℕ) (given : ℕ) → is_limit max given ≡ true → HasRoom max given → ⊥
no_room_left None given limit room = cc
no_room_left (Some max) given limit room = grind (arith, nat_tests)

-- what a stage says, as the model names it
pub refused_told : (stage : SourceStage) → is_refused stage ≡ true → is_refused_stage (source_stage_of stage) ≡ true
refused_told source.Refused e = refl
refused_told _ e = absurd (cc)

pub spoken_for_told : (stage : SourceStage) → is_posted stage ≡ false → is_spoken_for (source_stage_of stage) ≡ true
    → is_head_spoken_for stage ≡ true
spoken_for_told (source.Out i) posted e = refl
spoken_for_told (source.Accepted i) posted e = refl
spoken_for_told (source.Reserved i) posted e = refl
spoken_for_told (source.Claimed i) posted e = refl
spoken_for_told _ posted e = absurd (cc)

pub record IsRefusal (stage : TargetStage) (why : views.Refusal) : Type 0 where
  pub reason : Refusal
  pub stage_is : stage ≡ target.Refused reason
  pub same : refusal_of reason ≡ why

pub refusal_told : (stage : TargetStage) (hand : Option Value) (why : views.Refusal)
    → target_stage_of stage hand ≡ views.TargetStage.refused why → IsRefusal stage why
refusal_told (target.Refused reason) hand why e = record { reason = reason; stage_is = refl; same = cc }
refusal_told _ hand why e = absurd (cc)

pub coming_told : (stage : TargetStage) (hand : Option Value)
    → is_coming (target_stage_of stage hand) ≡ is_coming_at stage
coming_told target.Free hand = refl
coming_told (target.Offered i) hand = refl
coming_told (target.Posted i) hand = refl
coming_told (target.Postponed i) hand = refl
coming_told (target.Accepted i) hand = refl
coming_told (target.Consuming i) hand = refl
coming_told (target.Asking i) hand = refl
coming_told (target.Holding i) hand = refl
coming_told (target.Claiming i) hand = refl
coming_told (target.Arrived i) hand = refl
coming_told (target.Hand i) hand = refl
coming_told (target.Refused why) hand = refl
coming_told (target.Ended how) hand = refl

pub completion_told : (stage : TargetStage) (hand : Option Value) → is_completion stage ≡ true
    → has_seen_completion (target_stage_of stage hand) ≡ true
completion_told (target.Ended link_end.Complete) hand e = refl
completion_told _ hand e = absurd (cc)

pub fault_told : (number : ℕ) (stage : TargetStage) (hand : Option Value) → is_number number (fault_seen stage) ≡ true
    → has_seen_fault number (target_stage_of stage hand) ≡ true
fault_told number (target.Ended (link_end.Fault n)) hand e = e
fault_told number _ hand e = absurd (cc)

pub postponed_back : (stage : TargetStage) (hand : Option Value) → is_view_postponed (target_stage_of stage hand) ≡ true
    → is_postponed stage ≡ true
postponed_back (target.Postponed i) hand e = refl
postponed_back _ hand e = absurd (cc)

pub end_back : (stage : TargetStage) (hand : Option Value) → has_seen_end (target_stage_of stage hand) ≡ true
    → (is_completion stage ≡ true) ⊎ (is_some (fault_seen stage) ≡ true)
end_back (target.Ended link_end.Complete) hand e = inl refl
end_back (target.Ended (link_end.Fault n)) hand e = inr refl
end_back _ hand e = absurd (cc)

-- nothing comes where nothing comes at any end
pub none_come : (ends : List EndState) → ((k : ℕ) → k < length ends → is_coming_at (stage_in k ends) ≡ false)
    → count_at is_coming_at ends ≡ 0
none_come [] none = refl
none_come (end ∷ ends) none =
    ap₂ (λ (b : Bool) (n : ℕ). cond b 1 0 + n) (none 0 (omega arith))
    (none_come ends (λ k small. none (suc k) (omega arith)))
