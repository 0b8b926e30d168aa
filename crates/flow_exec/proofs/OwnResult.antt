-- A result that comes back is what the block's own work makes of the message, since it is of that message, by a work that is equal.
use Rattle.std.proofs.Common.{◌≡◌, ◌↔◌, ℕ, Bool, true, false, List, Option, Some, None, Result, Ok, Err, refl, sym, ap, ◌∙◌}
use Rattle.std.proofs.lemmas.Bool.{false_from_ne_true}
use Rattle.flow_value.specs.declared.value.Value.{Value}
use Rattle.flow_value.specs.declared.work.WorkFault.{WorkFault}
use Rattle.flow_link.specs.declared.draft.BlockKind.{BlockKind}
use Rattle.flow_link.specs.Making.{result_of}
use Rattle.flow_outlet.specs.Outlet.{lacks_ids}
use Rattle.flow_outlet.specs.declared.fault.OutletFault.{OutletFault}
use Rattle.flow_outlet.specs.declared.fault.OutletFault.TheVariants as outlet
use Rattle.flow_block.specs.Block.{job_message, put_by_job}
use Rattle.flow_exec.specs.Execution.{ExecutionState, SameWork, IsOwnJob, job_result, lacks_job_ids, fault_of}
use Rattle.flow_exec.specs.Jobs.{work_in, kind_in, message_in, ticket_in}
use Rattle.flow_exec.specs.Works.{result_by_number, worked_by, results_by}
use Rattle.flow_exec.specs.declared.fault.EndFault.{EndFault}
use Rattle.flow_exec.specs.declared.fault.EndFault.TheVariants.{Ids}
use Rattle.flow_exec.specs.declared.job.Job.{Job}

module _ {W : Type 0} (meaning : W → Value → Result (List Value) WorkFault) (equal : W → W → Bool)
    (same_meaning : (a b : W) → equal a b ≡ true → (value : Value) → meaning a value ≡ meaning b value) where
  works_same : (its given : Option W) (value : Value) → SameWork equal its given
      → worked_by meaning its value ≡ worked_by meaning given value
  works_same (Some its) (Some given) value same =
      ap (λ (made : Result (List Value) WorkFault). result_by_number made) (same_meaning its given same value)
  works_same None None value same = refl
  works_same (Some its) None value same = absurd same
  works_same None (Some given) value same = absurd same

  pub own_result : (execution : ExecutionState W) (job : Job W) → IsOwnJob equal execution job
      → results_by (work_in job) (kind_in job) meaning (message_in job)
      ≡ job_result meaning (ticket_in job) execution
  own_result execution job own =
      ap (λ (kind : BlockKind). result_of kind (worked_by meaning (work_in job) (message_in job))) own.kind
      ∙ ap (λ (value : Value). result_of execution.block.kind (worked_by meaning (work_in job) value)) own.message
      ∙ ap (λ (made : Result (List Value) ℕ). result_of execution.block.kind made)
      (sym (works_same execution.work (work_in job) (job_message (ticket_in job) execution.block) own.work))

ids_of_outlet : (fault : OutletFault) → fault_of fault ≡ Ids → fault ≡ outlet.Ids
ids_of_outlet outlet.Ids is = refl
ids_of_outlet outlet.Memory is = absurd (cc)

abbrev fault_in : {T A : Type 0} → OutletFault → Result T (A × OutletFault) → OutletFault
fault_in none (Ok x) = none
fault_in none (Err refused) = refused.1

module _ {W : Type 0} (meaning : W → Value → Result (List Value) WorkFault) (equal : W → W → Bool)
    (same_meaning : (a b : W) → equal a b ≡ true → (value : Value) → meaning a value ≡ meaning b value)
    (execution : ExecutionState W) (job : Job W) (own : IsOwnJob equal execution job)
    (ticket : ℕ) (answer : Result (List Value) ℕ) (ticket_is : ticket ≡ ticket_in job)
    (answer_is : answer ≡ results_by (work_in job) (kind_in job) meaning (message_in job)) where
  abbrev lacks : Bool
  lacks = lacks_ids (put_by_job ticket answer execution.block) execution.block.exits

  lacks_is : lacks ≡ lacks_job_ids meaning (ticket_in job) execution
  lacks_is =
      ap (λ (ticket : ℕ). lacks_ids (put_by_job ticket answer execution.block) execution.block.exits) ticket_is
      ∙ ap (λ (made : Result (List Value) ℕ). lacks_ids (put_by_job (ticket_in job) made execution.block) execution.block.exits)
      (answer_is ∙ own_result meaning equal same_meaning execution job own)

  -- where it is taken back, ids are there
  pub taken_has : {T E : Type 0} (result : Result T E) (e : E) (x : T) → ((result ≡ Err e) ↔ (lacks ≡ true))
      → result ≡ Ok x → lacks_job_ids meaning (ticket_in job) execution ≡ false
  taken_has result e x ids is =
      false_from_ne_true (lacks_job_ids meaning (ticket_in job) execution)
      (λ e_lacks. let wrong : Ok x ≡ Err e = sym is ∙ ids.1 (lacks_is ∙ e_lacks) in absurd (cc))

  -- and it is refused for ids just where they are not
  pub refused_ids : {T : Type 0} (result : Result T (Result (List Value) ℕ × OutletFault)) (back : Result (List Value) ℕ)
      (fault : OutletFault) (told : EndFault) → told ≡ fault_of fault
      → ((result ≡ Err (answer, outlet.Ids)) ↔ (lacks ≡ true)) → result ≡ Err (back, fault) → back ≡ answer
      → (told ≡ Ids) ↔ (IsOwnJob equal execution job × (lacks_job_ids meaning (ticket_in job) execution ≡ true))
  refused_ids result back fault told told_is ids is same = (
    λ is_ids. (
      own,
      sym lacks_is
          ∙ ids.0 (is ∙ ap (λ (fault : OutletFault). Err (back, fault)) (ids_of_outlet fault (sym told_is ∙ is_ids))
          ∙ ap (λ (made : Result (List Value) ℕ). Err (made, outlet.Ids)) same),
    ),
    λ both. told_is
        ∙ ap fault_of (ap (fault_in fault) (sym is ∙ ids.1 (lacks_is ∙ both.1))),
  )
