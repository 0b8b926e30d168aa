-- A result that comes back over a lane is that of its message: the job is of that message, and its work means what the block's does.
use Rattle.std.proofs.Common.{◌≡◌, ◌↔◌, ℕ, Bool, true, false, List, Option, Some, None, Result, Ok, Err, IfOk, OnOk, OnErr, refl, sym, ap, ◌∙◌, is_none}
use Rattle.std.proofs.lemmas.Bool.{and_parts, false_from_ne_true}
use Rattle.std.proofs.lemmas.Grind.{merely}
use Rattle.std.specs.declared.alloc.AllocError.{AllocError}
use Rattle.flow_value.specs.declared.value.Value.{Value}
use Rattle.flow_value.specs.declared.work.WorkFault.{WorkFault}
use Rattle.flow_link.specs.declared.draft.BlockKind.{BlockKind}
use Rattle.flow_link.specs.Layout.{Layout}
use Rattle.flow_link.specs.Making.{result_of}
use Rattle.flow_link.specs.Plan.{block_in}
use Rattle.flow_outlet.specs.Outlet.{lacks_ids}
use Rattle.flow_outlet.specs.declared.fault.OutletFault.{OutletFault}
use Rattle.flow_outlet.specs.declared.fault.OutletFault.TheVariants.{Ids}
use Rattle.flow_block.specs.Block.{ends_job, job_message, put_by_job}
use Rattle.flow_block.specs.Jobs.{is_out}
use Rattle.flow_block.specs.Node.{NodeState, with_block}
use Rattle.flow_block.specs.Planned.{block_makes}
use Rattle.flow_block_law.specs.JobsEnd.{after_job, job_result, put_at_end}
use Rattle.flow_exec.specs.Execution.{SameWork}
use Rattle.flow_exec.specs.Jobs.{work_in, kind_in, message_in, ticket_in}
use Rattle.flow_exec.specs.Works.{result_by_number, worked_by, results_by, works_of}
use Rattle.flow_exec.specs.declared.job.Job.{Job}
use Rattle.flow_moves.specs.Statements.{IsPlanned}
use Rattle.flow_moves.proofs.WorksAtOnce.{result_is}
use Rattle.flow_task.specs.Events.{BlockEvent, Does}
use Rattle.flow_task.specs.Laned.{IsOwnJob, TakesBack}

-- what was taken back was an event, and what was not left the node as it was
pub takes_does : {E : Type 0} (makes : Value → Result (List Value) ℕ) (ticket : ℕ) (result : Result Bool E) (did : Bool) (old new : NodeState)
    → result ≡ Ok did → TakesBack makes ticket result old new → Does true makes (Ok did) old new
takes_does makes ticket (Ok true) true old new is taken =
    merely (BlockEvent.end_job ticket, record { comes = (refl, taken.comes); leaves = taken.leaves })
takes_does makes ticket (Ok true) false old new is taken = absurd (cc)
takes_does makes ticket (Ok false) true old new is taken = absurd (cc)
takes_does makes ticket (Ok false) false old new is taken = taken
takes_does makes ticket (Err refused) did old new is taken = absurd (cc)

pub not_taken : {E : Type 0} (makes : Value → Result (List Value) ℕ) (ticket : ℕ) (result : Result Bool E) (refused : E) (old new : NodeState)
    → result ≡ Err refused → TakesBack makes ticket result old new → new ≡ old
not_taken makes ticket (Ok did) refused old new is taken = absurd (cc)
not_taken makes ticket (Err fault) refused old new is taken = taken

-- where nothing was done, or memory was wanting, the node is as it was
pub idle_does : (makes : Value → Result (List Value) ℕ) (result : Result Bool AllocError) (old new : NodeState)
    → IfOk result (λ did. did ≡ false) → new ≡ old → Does true makes result old new
idle_does makes (Ok true) old new not same = absurd (cc)
idle_does makes (Ok false) old new not same = same
idle_does makes (Err fault) old new not same = same

-- what holds, holds where the call is refused
pub where_refused : {T E : Type 0} (P : Type 0) (result : Result T E) → P → OnErr result P
where_refused P (Ok value) holds = tt
where_refused P (Err fault) holds = holds

-- where the call is done, no id was wanting
done_has : {T E : Type 0} (result : Result T E) (e : E) (lacks : Bool) → ((result ≡ Err e) ↔ (lacks ≡ true)) → OnOk result (lacks ≡ false)
done_has (Ok value) e lacks refused =
    false_from_ne_true lacks (λ e_lacks. let wrong = refused.1 e_lacks in absurd (cc))
done_has (Err other) e lacks refused = tt

abbrev fault_in : {T A : Type 0} → OutletFault → Result T (A × OutletFault) → OutletFault
fault_in other (Ok value) = other
fault_in other (Err refused) = refused.1

module _ {W : Type 0} (meaning : W → Value → Result (List Value) WorkFault) (equal : W → W → Bool)
    (same_meaning : (a b : W) → equal a b ≡ true → (value : Value) → meaning a value ≡ meaning b value) where
  same_works : (its given : Option W) (value : Value) → SameWork equal its given → worked_by meaning its value ≡ worked_by meaning given value
  same_works (Some its) (Some given) value same =
      ap (λ (made : Result (List Value) WorkFault). result_by_number made) (same_meaning its given same value)
  same_works None None value same = refl
  same_works (Some its) None value same = absurd same
  same_works None (Some given) value same = absurd same

  module _ (layout : Layout W) (b : ℕ) (node : NodeState) (planned : IsPlanned layout b node.block) (job : Job W)
      (own : IsOwnJob equal layout b node job) where
    abbrev makes : Value → Result (List Value) ℕ
    makes = block_makes layout (works_of meaning layout) b

    pub own_works : is_out (ticket_in job) node.block.jobs ≡ true
    own_works = (and_parts (is_none node.block.stopped) (is_out (ticket_in job) node.block.jobs) own.out).1

    -- what came of the job is what the block makes of its message
    answer_is : results_by (work_in job) (kind_in job) meaning (message_in job) ≡ job_result makes (ticket_in job) node.block
    answer_is =
        ap (λ (kind : BlockKind). result_of kind (worked_by meaning (work_in job) (message_in job))) (own.kind ∙ planned.kind_is)
        ∙ ap (λ (value : Value). result_of (block_in layout.blocks b).kind (worked_by meaning (work_in job) value)) own.message
        ∙ ap (λ (made : Result (List Value) ℕ). result_of (block_in layout.blocks b).kind made)
        (sym (same_works (block_in layout.blocks b).work (work_in job) (job_message (ticket_in job) node.block) own.work))
        ∙ sym (result_is makes node.block (ticket_in job) (planned.works (ticket_in job) own_works))

    module _ (answer : Result (List Value) ℕ) (is : answer ≡ results_by (work_in job) (kind_in job) meaning (message_in job)) where
      pub own_ended : (new : NodeState) → new ≡ with_block (ends_job (ticket_in job) answer node.block) node
          → new ≡ after_job makes (ticket_in job) node
      own_ended new done =
          done ∙ ap (λ (made : Result (List Value) ℕ). with_block (ends_job (ticket_in job) made node.block) node) (is ∙ answer_is)

      pub own_has : {T E : Type 0} (result : Result T E) (e : E)
          → ((result ≡ Err e) ↔ (lacks_ids (put_by_job (ticket_in job) answer node.block) node.block.exits ≡ true))
          → OnOk result (lacks_ids (put_at_end makes (ticket_in job) node.block) node.block.exits ≡ false)
      own_has result e refused =
          let same = ap (λ (made : Result (List Value) ℕ). lacks_ids (put_by_job (ticket_in job) made node.block) node.block.exits) (is ∙ answer_is) in
          done_has result e (lacks_ids (put_at_end makes (ticket_in job) node.block) node.block.exits)
          (λ err. sym same ∙ refused.0 err, λ lacks. refused.1 (same ∙ lacks))

      -- it is refused for ids just where they are wanting
      pub own_lacks : {T : Type 0} (result : Result T (Result (List Value) ℕ × OutletFault)) (back : Result (List Value) ℕ) (fault : OutletFault)
          → ((result ≡ Err (answer, Ids)) ↔ (lacks_ids (put_by_job (ticket_in job) answer node.block) node.block.exits ≡ true))
          → result ≡ Err (back, fault) → back ≡ answer
          → (fault ≡ Ids) ↔ (lacks_ids (put_at_end makes (ticket_in job) node.block) node.block.exits ≡ true)
      own_lacks result back fault refused told same =
          let alike = ap (λ (made : Result (List Value) ℕ). lacks_ids (put_by_job (ticket_in job) made node.block) node.block.exits) (is ∙ answer_is) in (
            λ ids. sym alike
                ∙ refused.0 (told ∙ ap (λ (f : OutletFault). Err (back, f)) ids ∙ ap (λ (made : Result (List Value) ℕ). Err (made, Ids)) same),
            λ lacks. ap (fault_in fault) (sym told ∙ refused.1 (alike ∙ lacks)),
          )
