-- A result that comes back from outside is that of its message: the job is of that message, and its work means what the block's does.
use Rattle.std.proofs.Common.{◌≡◌, ◌≢◌, ◌↔◌, ℕ, Bool, true, false, List, Option, Some, None, Result, Ok, Err, refl, sym, ap, ◌∙◌, is_none}
use Rattle.std.proofs.lemmas.Bool.{and_parts, false_from_ne_true}
use Rattle.flow_value.specs.declared.value.Value.{Value}
use Rattle.flow_value.specs.declared.work.WorkFault.{WorkFault}
use Rattle.flow_link.specs.declared.draft.BlockKind.{BlockKind}
use Rattle.flow_link.specs.Layout.{Layout}
use Rattle.flow_link.specs.Making.{result_of}
use Rattle.flow_link.specs.Plan.{block_in}
use Rattle.flow_outlet.specs.Outlet.{lacks_ids}
use Rattle.flow_block.specs.Block.{BlockState, ends_job, job_message, put_by_job}
use Rattle.flow_block.specs.Jobs.{is_out}
use Rattle.flow_block_law.specs.JobsEnd.{job_result}
use Rattle.flow_block.specs.Node.{NodeState, with_block}
use Rattle.flow_block.specs.Planned.{block_makes}
use Rattle.flow_exec.specs.Execution.{SameWork}
use Rattle.flow_exec.specs.Jobs.{work_in, kind_in, message_in, ticket_in}
use Rattle.flow_exec.specs.Works.{result_by_number, worked_by, results_by, works_of}
use Rattle.flow_exec.specs.declared.job.Job.{Job}
use Rattle.flow_core.specs.Events.{NetEvent, HasIds, MayHappen, with_node, after}
use Rattle.flow_core.specs.Keeps.{NetKeeps}
use Rattle.flow_core.specs.State.{NetState, node_at}
use Rattle.flow_moves.specs.Statements.{IsPlanned}
use Rattle.flow_moves.proofs.MerelyKept.{blocks_planned}
use Rattle.flow_moves.proofs.WorksAtOnce.{result_is}
use Rattle.flow_net.specs.OwnJobs.{IsOwnJob}

-- where the call is not refused, no id is wanting
ok_has : {T E : Type 0} (result : Result T E) (e : E) (lacks : Bool) → ((result ≡ Err e) ↔ (lacks ≡ true)) → (x : T)
    → result ≡ Ok x → lacks ≡ false
ok_has result e lacks refused x is =
    false_from_ne_true lacks (λ e_lacks. let wrong : Ok x ≡ Err e = sym is ∙ refused.1 e_lacks in absurd (cc))

-- nor where it is refused for something else
err_has : {T E : Type 0} (result : Result T E) (e other : E) (lacks : Bool) → ((result ≡ Err e) ↔ (lacks ≡ true))
    → result ≡ Err other → other ≢ e → lacks ≡ false
err_has result e other lacks refused is differ =
    false_from_ne_true lacks (λ e_lacks.
    let both = sym is ∙ refused.1 e_lacks in
    let same : other ≡ e = cc in
    differ same)

module _ {W : Type 0} (meaning : W → Value → Result (List Value) WorkFault) (equal : W → W → Bool)
    (same_meaning : (a b : W) → equal a b ≡ true → (value : Value) → meaning a value ≡ meaning b value) where
  works_same : (its given : Option W) (value : Value) → SameWork equal its given
      → worked_by meaning its value ≡ worked_by meaning given value
  works_same (Some its) (Some given) value same =
      ap (λ (made : Result (List Value) WorkFault). result_by_number made) (same_meaning its given same value)
  works_same None None value same = refl
  works_same (Some its) None value same = absurd same
  works_same None (Some given) value same = absurd same

  module _ (layout : Layout W) (old : NetState) (kept : ∥ NetKeeps layout (works_of meaning layout) old ∥₁) (b : ℕ)
      (job : Job W) (own : IsOwnJob equal layout old b job) where
    abbrev block : BlockState
    block = (node_at old b).block

    abbrev works : ℕ → Value → Result (List Value) ℕ
    works = works_of meaning layout

    abbrev ticket : ℕ
    ticket = ticket_in job

    planned : IsPlanned layout b block
    planned = blocks_planned layout works old kept b own.there

    -- what came of the job is what the block makes of its message
    answer_is : results_by (work_in job) (kind_in job) meaning (message_in job)
        ≡ job_result (block_makes layout works b) ticket block
    answer_is =
        ap (λ (kind : BlockKind). result_of kind (worked_by meaning (work_in job) (message_in job)))
        (own.kind ∙ planned.kind_is)
        ∙ ap (λ (value : Value). result_of (block_in layout.blocks b).kind (worked_by meaning (work_in job) value))
        own.message
        ∙ ap (λ (made : Result (List Value) ℕ). result_of (block_in layout.blocks b).kind made)
        (sym (works_same (block_in layout.blocks b).work (work_in job) (job_message ticket block) own.work))
        ∙ sym (result_is (block_makes layout works b) block ticket
        (planned.works ticket (and_parts (is_none block.stopped) (is_out ticket block.jobs) own.out).1))

    pub returned_is_after : (answer : Result (List Value) ℕ) (new : NetState)
        → answer ≡ results_by (work_in job) (kind_in job) meaning (message_in job)
        → new ≡ with_node b (λ (node : NodeState). with_block (ends_job ticket answer node.block) node) old
        → new ≡ after layout works (NetEvent.end_job b ticket) old
    returned_is_after answer new is done =
        done
        ∙ ap (λ (made : Result (List Value) ℕ).
        with_node b (λ (node : NodeState). with_block (ends_job ticket made node.block) node) old) (is ∙ answer_is)

    pub returned_may : {T E : Type 0} (result : Result T E) (e : E) (answer : Result (List Value) ℕ) (x : T)
        → answer ≡ results_by (work_in job) (kind_in job) meaning (message_in job)
        → ((result ≡ Err e) ↔ (lacks_ids (put_by_job ticket answer block) block.exits ≡ true)) → result ≡ Ok x
        → MayHappen layout works (NetEvent.end_job b ticket) old
    returned_may result e answer x is refused done = record {
      enabled = record { there = own.there; would = own.out };
      ids = ap (λ (made : Result (List Value) ℕ). lacks_ids (put_by_job ticket made block) block.exits)
          (sym (is ∙ answer_is))
          ∙ ok_has result e (lacks_ids (put_by_job ticket answer block) block.exits) refused x done;
    }

    -- it is refused for ids just where one is wanting
    pub returned_lacks : {T E : Type 0} (result : Result T E) (e : E) (answer : Result (List Value) ℕ)
        → answer ≡ results_by (work_in job) (kind_in job) meaning (message_in job)
        → ((result ≡ Err e) ↔ (lacks_ids (put_by_job ticket answer block) block.exits ≡ true)) → result ≡ Err e
        → HasIds layout works (NetEvent.end_job b ticket) old → ⊥
    returned_lacks result e answer is refused why ids =
        let same : lacks_ids (put_by_job ticket answer block) block.exits
        ≡ lacks_ids (put_by_job ticket (job_result (block_makes layout works b) ticket block) block) block.exits =
        ap (λ (made : Result (List Value) ℕ). lacks_ids (put_by_job ticket made block) block.exits) (is ∙ answer_is) in
        let wrong : true ≡ false = sym (refused.0 why) ∙ same ∙ ids in
        absurd (cc)

    pub returned_has : {T E : Type 0} (result : Result T E) (e other : E) (answer : Result (List Value) ℕ)
        → answer ≡ results_by (work_in job) (kind_in job) meaning (message_in job)
        → ((result ≡ Err e) ↔ (lacks_ids (put_by_job ticket answer block) block.exits ≡ true)) → result ≡ Err other → other ≢ e
        → HasIds layout works (NetEvent.end_job b ticket) old
    returned_has result e other answer is refused why differ =
        ap (λ (made : Result (List Value) ℕ). lacks_ids (put_by_job ticket made block) block.exits) (sym (is ∙ answer_is))
        ∙ err_has result e other (lacks_ids (put_by_job ticket answer block) block.exits) refused why differ
