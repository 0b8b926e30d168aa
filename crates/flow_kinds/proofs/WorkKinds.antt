-- An execution block stays of its kind by each call.
use Rattle.std.proofs.Common.{◌≡◌, ℕ, Bool, List, Option, Some, None, Result, Ok, Err, IfOk, IfSome, OnOk, OnErr, refl, ap, ◌∙◌}
use Rattle.std.specs.declared.alloc.AllocError.{AllocError}
use Rattle.flow_value.specs.declared.value.Value.{Value}
use Rattle.flow_value.specs.declared.work.WorkFault.{WorkFault}
use Rattle.flow_value.specs.declared.message.MessageStatus.{MessageStatus}
use Rattle.flow_link.specs.SourceCalls.{SourceCall}
use Rattle.flow_link.specs.TargetCalls.{TargetCall}
use Rattle.flow_link.specs.declared.draft.BlockKind.{BlockKind}
use Rattle.flow_exec.specs.Calls.{Gives, Takes}
use Rattle.flow_exec.specs.Execution.{ExecutionState, begins_job, job_result, ends_own_job}
use Rattle.flow_exec.specs.declared.job.Job.{Job}
use Rattle.flow_kinds.proofs.KindsStay.{gives_stay, takes_stay, ended_kind}

-- Where memory is out, it stays as it was

pub same_on_ok : {A S : Type 0} (kind : S → BlockKind) (old new : S) (P : A → Type 0) (result : Result A AllocError)
    → ((a : A) → P a → kind new ≡ kind old) → IfOk result P → OnErr result (new ≡ old) → kind new ≡ kind old
same_on_ok kind old new P (Ok a) each done kept = each a done
same_on_ok kind old new P (Err error) each done kept = ap kind kept

-- An execution block

module _ {W : Type 0} (old new : ExecutionState W) where
  abbrev pub kind_of : ExecutionState W → BlockKind
  kind_of execution = execution.block.kind

  pub offer_kind : (result : Result (Option (ℕ × ℕ)) AllocError) → IfOk result (λ offer. Gives old (SourceCall.offered offer) new)
      → OnErr result (new ≡ old) → new.block.kind ≡ old.block.kind
  offer_kind result =
      same_on_ok kind_of old new (λ offer. Gives old (SourceCall.offered offer) new) result
      (λ offer done. (gives_stay old.block new.block (SourceCall.offered offer) done.0).kind)

  pub answer_kind : (link header : ℕ) (may_postpone : Bool) (result : Result MessageStatus AllocError)
      → IfOk result (λ how. Takes old (TargetCall.offered link header may_postpone how) new)
      → OnErr result (new ≡ old) → new.block.kind ≡ old.block.kind
  answer_kind link header may_postpone result =
      same_on_ok kind_of old new (λ how. Takes old (TargetCall.offered link header may_postpone how) new) result
      (λ how done. (takes_stay old.block new.block (TargetCall.offered link header may_postpone how) done.0).kind)

  -- a job begins, or ends

  pub begin_kind : (result : Result (Option (Job W)) AllocError)
      → IfOk result (λ begun. IfSome begun (λ job. new ≡ begins_job old)) → (result ≡ Ok None → new ≡ old) → OnErr result (new ≡ old)
      → new.block.kind ≡ old.block.kind
  begin_kind (Ok (Some job)) done nothing kept = ap kind_of done
  begin_kind (Ok None) done nothing kept = ap kind_of (nothing refl)
  begin_kind (Err error) done nothing kept = ap kind_of kept

  pub end_kind : {F : Type 0} (meaning : W → Value → Result (List Value) WorkFault) (ticket : ℕ) (result : Result (Unit {0}) F)
      → OnOk result (new ≡ ends_own_job meaning ticket old) → OnErr result (new ≡ old) → new.block.kind ≡ old.block.kind
  end_kind meaning ticket (Ok done) ends kept =
      ap kind_of ends ∙ ended_kind ticket old.block (job_result meaning ticket old)
  end_kind meaning ticket (Err error) ends kept = ap kind_of kept
