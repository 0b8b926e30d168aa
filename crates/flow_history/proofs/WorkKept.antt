-- Over any calls a block with a function that a caller drives by hand keeps its messages.
use Rattle.std.proofs.Common.{◌≤◌, ◌≡◌, ℕ, ◌<◌, true, false, List, [], ◌∷◌, ◌++◌, length, Option, Some, None, Result, Ok, Err, refl, ap, sym, subst, ◌∙◌, arith}
use Rattle.std.proofs.lemmas.Bool.{and_parts}
use Rattle.flow_value.specs.declared.value.Value.{Value}
use Rattle.flow_value.specs.declared.work.WorkFault.{WorkFault}
use Rattle.flow_link.specs.declared.draft.BlockKind.{BlockKind}
use Rattle.flow_link.specs.declared.draft.BlockKind.TheVariants.{Action, Transform, TransformMany, Batch}
use Rattle.flow_link.specs.declared.traits.MakeFault.TheVariants as make_fault
use Rattle.flow_link.specs.BlockCalls.{BlockCall}
use Rattle.flow_link.specs.Making.{result_of}
use Rattle.flow_link.specs.Plan.{has_work, is_broadcast, is_one_taker}
use Rattle.flow_link.specs.TargetCalls.{TargetCall}
use Rattle.flow_intake.specs.Port.{PortState, coming}
use Rattle.flow_outlet.specs.declared.ends.LinkRule.{LinkRule}
use Rattle.flow_block.specs.Block.{port_in, port_at, held_by, is_batch, begins, put_by_job, job_message}
use Rattle.flow_block.specs.Jobs.{AreOf}
use Rattle.flow_block_law.specs.NodeLaw.{MakesAs, FaultsOn, WeighsAs, partly_weighed}
use Rattle.flow_block.specs.Traits.{makes_alone, has_turn, Makes}
use Rattle.flow_exec.specs.Execution.{ExecutionState, fresh_execution, job_result}
use Rattle.flow_exec.specs.Works.{results_by, worked_by}
use Rattle.flow_outlet.specs.Fits.{weight_of}
use Rattle.flow_block.specs.BlockFits.{weight_out}
use Rattle.flow_block.specs.Copies.{copies_weight}
use Rattle.flow_history.specs.Calls.{Call, MayCallInOrder, Does, Step, AllDone, after_all}
use Rattle.flow_history.specs.History.{History, nothing_yet, took_at, given, came_by, made_by, noted, history_of}
use Rattle.flow_history.specs.Kept.{NothingCame}
use Rattle.flow_history.specs.Worked.{WorkCall, gave_for, MayCallWorkInOrder, FitsWork, came_for, DoesWork, worked_out, result_in, KeepsWork, WorkIsKept}
use Rattle.flow_history.proofs.CallsLeave.{IsPlain, out_at}
use Rattle.flow_history.proofs.MessagesKept.{nothing_added, only_made, fresh_kept, none_at, fits_in}
use Rattle.flow_history.proofs.WorkTold.{works_so, shares_so, never, given_as, IsSingle}
use Rattle.flow_history.proofs.StepsKept.{fits_after, all_kept}
use Rattle.flow_history.proofs.WorkSteps.{BlockKept, began_kept, ended_kept, plain_kept, handed_kept}

-- An execution block

module _ {W : Type 0} (meaning : W → Value → Result (List Value) WorkFault) (kind : BlockKind) (work : Option W) (works : has_work kind ≡ true) where
  abbrev own : Value → Result (List Value) ℕ
  own = results_by work kind meaning

  single : IsSingle own kind
  single is value made e =
      one_made (worked_by meaning work value) made (ap (λ (k : BlockKind). result_of k (worked_by meaning work value)) (sym is) ∙ e)
    where
      one_made : (worked : Result (List Value) ℕ) (made : List Value) → result_of Transform worked ≡ Ok made → length made ≡ 1
      one_made (Ok []) made e = absurd (cc)
      one_made (Ok (v ∷ [])) made e = let same : v ∷ [] ≡ made = cc in ap length (sym same)
      one_made (Ok (v ∷ w ∷ vs)) made e = absurd (cc)
      one_made (Err number) made e = absurd (cc)

  record ExecutionKept (h : History) (execution : ExecutionState W) : Type 0 where
    pub block : BlockKept own kind works single h execution.block
    pub work_is : execution.work ≡ work

  module _ (h : History) (old new : ExecutionState W) (kept : ExecutionKept h old) (fits : FitsWork old) where
    abbrev After : WorkCall → Type 0
    After call = ExecutionKept (noted came_for (worked_out meaning) gave_for call old h) new

    plainly : (call : Call) → IsPlain call → MayCallInOrder call old.block → Does call old.block new.block → new.work ≡ old.work
        → made_by call old.block ≡ [] → came_by call old.block ≡ [] → After (WorkCall.common call)
    plainly call plain may does same made came = record {
      block = plain_kept own kind works single h old.block new.block kept.block fits.fits call plain may does made came;
      work_is = same ∙ kept.work_is;
    }

    -- a block with a function makes nothing by itself
    makes_nothing : {A : Type 0} → Makes false old.block → A
    makes_nothing may =
        let alone = (and_parts (makes_alone old.block.kind (length old.block.ports)) (has_turn (is_broadcast old.block.kind) old.block) may.by_itself).0 in
        not_alone old.block.kind (ap has_work kept.block.kind_is ∙ works) alone
      where
        not_alone : {A : Type 0} (k : BlockKind) → has_work k ≡ true → makes_alone k (length old.block.ports) ≡ true → A
        not_alone Action w alone = absurd (cc)
        not_alone Transform w alone = absurd (cc)
        not_alone TransformMany w alone = absurd (cc)
        not_alone _ w alone = absurd (cc)

    acts_kept : (call : BlockCall) → MayCallWorkInOrder (WorkCall.common (Call.acts call)) old → DoesWork meaning (WorkCall.common (Call.acts call)) old new
        → After (WorkCall.common (Call.acts call))
    acts_kept (BlockCall.completed p) may does = plainly (Call.acts (BlockCall.completed p)) tt may does.0 does.1 refl refl
    acts_kept (BlockCall.faulted number) may does = plainly (Call.acts (BlockCall.faulted number)) tt may does.0 does.1 refl refl
    acts_kept (BlockCall.made (Ok true)) may does = makes_nothing does.0.0
    acts_kept (BlockCall.made (Ok false)) may does = plainly (Call.acts (BlockCall.made (Ok false))) tt may does.0 does.1 refl refl
    acts_kept (BlockCall.made (Err make_fault.Ids)) may does =
        plainly (Call.acts (BlockCall.made (Err make_fault.Ids))) tt may does.0 does.1 refl refl
    acts_kept (BlockCall.made (Err make_fault.Memory)) may does =
        plainly (Call.acts (BlockCall.made (Err make_fault.Memory))) tt may does.0 does.1 refl refl

    takes_kept : (call : TargetCall) → MayCallWorkInOrder (WorkCall.common (Call.takes call)) old → DoesWork meaning (WorkCall.common (Call.takes call)) old new
        → After (WorkCall.common (Call.takes call))
    takes_kept (TargetCall.offered link header may_postpone how) may does =
        plainly (Call.takes (TargetCall.offered link header may_postpone how)) tt may does.0 does.1 refl refl
    takes_kept (TargetCall.handed link header value) may does = record {
      block = handed_kept own kind works single h old.block new.block kept.block fits.fits link header value may.0 does.0;
      work_is = does.1 ∙ kept.work_is;
    }
    takes_kept (TargetCall.wished told) may does = plainly (Call.takes (TargetCall.wished told)) tt may does.0 does.1 refl refl
    takes_kept (TargetCall.noted link told) may does = plainly (Call.takes (TargetCall.noted link told)) tt may does.0 does.1 refl refl

    call_kept : (call : WorkCall) → MayCallWorkInOrder call old → DoesWork meaning call old new → After call
    call_kept (WorkCall.common (Call.acts call)) may does = acts_kept call may does
    call_kept (WorkCall.common (Call.gives call)) may does = plainly (Call.gives call) tt may does.0 does.1 refl refl
    call_kept (WorkCall.common (Call.takes call)) may does = takes_kept call may does
    call_kept (WorkCall.common Call.asked) may does = plainly Call.asked tt may does.0 does.1 refl refl
    call_kept WorkCall.began may does =
        subst (λ (x : History). ExecutionKept x new) (sym (nothing_added h))
        (subst (λ (e : ExecutionState W). ExecutionKept h e) (sym does)
        (record { block = began_kept own kind works single h old.block may kept.block; work_is = kept.work_is }))
    call_kept (WorkCall.ended ticket) may does =
        let made = job_result meaning ticket old in
        let is : made ≡ own (job_message ticket old.block) =
        ap (λ (w : Option W). results_by w old.block.kind meaning (job_message ticket old.block)) kept.work_is
        ∙ ap (λ (k : BlockKind). results_by work k meaning (job_message ticket old.block)) kept.block.kind_is in
        subst (λ (x : History). ExecutionKept x new) (sym (only_made h (put_by_job ticket made old.block)))
        (subst (λ (e : ExecutionState W). ExecutionKept (record h { made = h.made ++ put_by_job ticket made old.block }) e) (sym does)
        (record { block = ended_kept own kind works single ticket made h old.block is kept.block; work_is = kept.work_is }))

  all_calls_kept : (steps : List (Step WorkCall (ExecutionState W))) (old : ExecutionState W) (h : History) → FitsWork old
      → AllDone FitsWork MayCallWorkInOrder (DoesWork meaning) steps old → ExecutionKept h old
      → ExecutionKept (history_of came_for (worked_out meaning) gave_for steps old h) (after_all steps old)
  all_calls_kept =
      all_kept FitsWork MayCallWorkInOrder (DoesWork meaning) came_for (worked_out meaning) gave_for ExecutionKept call_kept

  -- what the law says
  work_says : (h : History) (execution : ExecutionState W) → ExecutionKept h execution → FitsWork execution → KeepsWork meaning h execution
  work_says h execution kept fits =
      let block = execution.block in
      let shared = kept.block.kept.messages.shared in
      let one : is_one_taker block.kind ≡ true = ap is_one_taker kept.block.kind_is ∙ shares_so kind works in
      let same : own ≡ result_in meaning execution =
      ap (λ (w : Option W). results_by w kind meaning) (sym kept.work_is)
      ∙ ap (λ (k : BlockKind). results_by execution.work k meaning) (sym kept.block.kind_is) in
      record {
        shared = shared;
        makes =
            subst (λ (k : BlockKind). MakesAs (result_in meaning execution) k (took_at h 0) (held_by block) (given h.gave) block.exits.left block.recorded)
            (sym kept.block.kind_is)
            (subst (λ (r : Value → Result (List Value) ℕ). MakesAs r kind (took_at h 0) (held_by block) (given h.gave) block.exits.left block.recorded)
            same
            (given_as own kind (took_at h 0) (held_by block) h.made (given h.gave) block.exits.left block.recorded works (shared one) kept.block.makes));
        waits = subst (λ (r : Value → Result (List Value) ℕ). AreOf r (held_by block) block.jobs.slots) same kept.block.waits;
        faulted = λ number is.
            subst (λ (k : BlockKind). FaultsOn (result_in meaning execution) k (held_by block) number) (sym kept.block.kind_is)
            (subst (λ (r : Value → Result (List Value) ℕ). FaultsOn r kind (held_by block) number) same (kept.block.faulted number is));
        weighs =
            subst (λ (k : BlockKind). WeighsAs (result_in meaning execution) k (port_at 0 block).capacity (took_at h 0) (held_by block) (given h.gave)
            block.exits.left block.exits.next block.exits.groups) (sym kept.block.kind_is)
            (subst (λ (r : Value → Result (List Value) ℕ). WeighsAs r kind (port_at 0 block).capacity (took_at h 0) (held_by block) (given h.gave)
            block.exits.left block.exits.next block.exits.groups) same kept.block.weighs);
        within =
            let first : 0 < length block.ports = (let alone = fits.runs.one_port in omega (arith, alone)) in
            let weight = weight_out block.exits (copies_weight block.copies) in
            let less : weight_of block.exits.groups ≤ weight = omega arith in
            fits_in (port_at 0 block).capacity (length (held_by block)) weight (weight_of block.exits.groups) (port_at 0 block).load (coming (port_at 0 block))
            less (out_at weight block.ports 0 first fits.fits.room) (kept.block.kept.in_order 0 first).room;
      }

-- nothing came, and nothing is worked on
begins_as : (result : Value → Result (List Value) ℕ) (kind : BlockKind) → has_work kind ≡ true → MakesAs result kind [] [] [] [] []
begins_as result Action works = (record { done = []; results = []; taken_is = refl; worked = refl; all = refl }, refl)
begins_as result Transform works = record { done = []; results = []; taken_is = refl; worked = refl; all = refl }
begins_as result TransformMany works = record { done = []; results = []; taken_is = refl; worked = refl; all = refl }
begins_as result _ works = absurd (cc)

weighs_nothing : (result : Value → Result (List Value) ℕ) (kind : BlockKind) (capacity : Option ℕ) (next : ℕ)
    → WeighsAs result kind capacity [] [] [] [] next []
weighs_nothing result TransformMany capacity next = record {
  works = record { done = []; results = []; taken_is = refl; worked = refl; all = refl };
  groups_are = none_partly capacity;
}
  where
    none_partly : (capacity : Option ℕ) → [] ≡ partly_weighed capacity 0 []
    none_partly None = refl
    none_partly (Some limit) = refl
weighs_nothing result Batch None next = refl
weighs_nothing result Batch (Some limit) next = refl
weighs_nothing result _ None next = refl
weighs_nothing result _ (Some limit) next = refl

fresh_work : {W : Type 0} (meaning : W → Value → Result (List Value) WorkFault) (kind : BlockKind) (lanes : ℕ) (work : Option W)
    (ports : List PortState) (rules : List LinkRule) (works : has_work kind ≡ true) → NothingCame ports
    → FitsWork (fresh_execution kind lanes work ports rules)
    → ExecutionKept meaning kind work works nothing_yet (fresh_execution kind lanes work ports rules)
fresh_work meaning kind lanes work ports rules works begins fits =
    let none = none_at kind lanes 0 ports rules begins 0 in
    let is_not = works_so kind works in
    record {
      block = record {
        kept = fresh_kept kind lanes 0 ports rules begins false (λ batch. never (is_batch kind) is_not.unbatched batch) (λ e. absurd (cc));
        kind_is = refl;
        one_port = fits.runs.one_port;
        makes = subst (λ (held : List Value). MakesAs (results_by work kind meaning) kind [] held [] [] []) (sym none)
            (begins_as (results_by work kind meaning) kind works);
        waits = tt;
        faulted = λ number is. absurd (cc);
        next_is = refl;
        weighs = subst (λ (held : List Value). WeighsAs (results_by work kind meaning) kind (port_in ports 0).capacity [] held [] [] 1 []) (sym none)
            (weighs_nothing (results_by work kind meaning) kind (port_in ports 0).capacity 1);
      };
      work_is = refl;
    }

pub work_is_kept : (W : Type 0) → WorkIsKept W
work_is_kept W = record {
  each = λ meaning kind lanes work ports rules works begins fits steps done.
      let fresh = fresh_execution kind lanes work ports rules in
      work_says meaning kind work works (history_of came_for (worked_out meaning) gave_for steps fresh nothing_yet) (after_all steps fresh)
      (all_calls_kept meaning kind work works steps fresh nothing_yet fits done (fresh_work meaning kind lanes work ports rules works begins fits))
      (fits_after FitsWork MayCallWorkInOrder (DoesWork meaning) steps fresh fits done);
}
