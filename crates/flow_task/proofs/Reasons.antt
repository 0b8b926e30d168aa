-- A move asks the same of an end, and leaves the same behind it, however it is found why its port refuses.
use Rattle.std.proofs.Common.{◌≡◌, ℕ, true, false, Option, Some, Result, Ok, Err, OnOk, OnErr, is_some, refl, sym, ap}
use Rattle.flow_value.specs.declared.value.Value.{Value}
use Rattle.flow_link.specs.declared.phase.Move.{Move}
use Rattle.flow_link.specs.declared.phase.Move.TheVariants as move
use Rattle.flow_link.specs.declared.stage.Refusal.{Refusal}
use Rattle.flow_link.specs.declared.stage.TargetStage.{TargetStage as TargetKept}
use Rattle.flow_link.specs.Views.{TargetView, LinkFacts}
use Rattle.flow_moves.specs.Calls.{answers_first}
use Rattle.flow_task.specs.Words.{MayMoveIn, moved_in, refused_so, may_be_forestalled, opens}

module _ (refusing : Option Refusal) (why : Refusal) (header : Option ℕ) (facts : LinkFacts) (view : TargetView Value) where
  pub reason_may : (next : Move) → MayMoveIn next header refusing facts view → MayMoveIn next header (Some why) facts view
  reason_may move.Want may = may
  reason_may move.TurnDown may = may
  reason_may move.Postpone may = may
  reason_may move.Refuse may = record { stands = may.stands; refuses = refl; its = may.its }
  reason_may move.Consume may = may
  reason_may move.Ask may = may
  reason_may move.Claim may = may
  reason_may move.Release may = may
  reason_may move.Open may = may
  reason_may move.Close may = may
  reason_may _ may = absurd may

  pub reason_moved : (next : Move) → MayMoveIn next header refusing facts view → (is_some refusing ≡ true → refusing ≡ Some why)
      → (slot : Option Value) → moved_in next (Some why) slot view ≡ moved_in next refusing slot view
  reason_moved move.Want may is slot = refl
  reason_moved move.TurnDown may is slot = refl
  reason_moved move.Postpone may is slot = refl
  reason_moved move.Refuse may is slot = ap (λ so. refused_so so view) (sym (is may.refuses))
  reason_moved move.Consume may is slot = refl
  reason_moved move.Ask may is slot = refl
  reason_moved move.Claim may is slot = refl
  reason_moved move.Release may is slot = refl
  reason_moved move.Open may is slot = refl
  reason_moved move.Close may is slot = refl
  reason_moved _ may is slot = absurd may

-- what the source may forestall opens nothing, and is no first answer
pub late_keeps : (next : Move) (stage : TargetKept) → may_be_forestalled next stage ≡ true → opens next ≡ false
late_keeps move.Consume stage late = refl
late_keeps move.Ask stage late = refl
late_keeps move.Refuse stage late = refl
late_keeps _ stage late = absurd (cc)

pub late_is_second : (next : Move) (stage : TargetKept) → may_be_forestalled next stage ≡ true → answers_first next ≡ false
late_is_second move.Consume stage late = refl
late_is_second move.Ask stage late = refl
late_is_second move.Refuse stage late = refl
late_is_second _ stage late = absurd (cc)

-- what is done where nothing fails is done, where nothing can fail
pub done_anyway : {A E : Type 0} {P : Type 0} (result : Result A E) (next : Move) → OnOk result P → OnErr result (answers_first next ≡ true)
    → answers_first next ≡ false → P
done_anyway (Ok value) next done failed second = done
done_anyway (Err fault) next done failed second = absurd (cc)
