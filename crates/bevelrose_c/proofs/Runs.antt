-- What became of a network, told of the plan and the records that it was made of.
use Rattle.std.proofs.Common.{◌≡◌, ◌∙◌, ℕ, suc, zero, ◌+◌, Bool, true, false, cond, List, [], ◌∷◌, ◌++◌, length, map, replicate, count_by, ap, refl, subst, sym, arith}
use Rattle.std.proofs.lemmas.Bool.{and_from}
use Rattle.std.proofs.lemmas.List.{length-map, length-replicate}
use Rattle.std.proofs.lemmas.List.Sums.{sum_by-cons}
use Rattle.flow_value.specs.Function.{meaning_of}
use Rattle.flow_value.specs.declared.steps.Steps.{Steps}
use Rattle.flow_value.specs.declared.value.Value.{Value}
use Rattle.flow_link.specs.Layout.{Layout}
use Rattle.flow_link.specs.Posted.{input_of, is_numbered_ending, ends_by_number}
use Rattle.flow_link.specs.Trace.{InputTrace}
use Rattle.flow_link.specs.declared.draft.BlockDef.{BlockDef}
use Rattle.flow_link.specs.declared.posted.Posted.{Posted}
use Rattle.flow_link.specs.declared.trace.Ending.{Ending}
use Rattle.flow_link.specs.declared.trace.Ending.TheVariants.{Complete}
use Rattle.flow_link.specs.Lists.{every}
use Rattle.flow_lawful.specs.Lawful.{Lawful}
use Rattle.flow_lawful.specs.Quiet.{Quiet as IsQuiet}
use Rattle.flow_core.specs.Inputs.{none_posted}
use Rattle.flow_core.specs.State.{NetState, fresh_net}
use Rattle.flow_core.proofs.InputsChange.{fresh_none_posted}
use Rattle.flow_exec.specs.Works.{works_of}
use Rattle.flow_net.specs.Net.{NetGoesOn, NetNeedsId, NetSettles, layout_in, parts_of, run_of, run_with}
use Rattle.flow_net.specs.There.{NeedsId}
use Rattle.flow_net.specs.declared.net.Net.{Net}
use Rattle.flow_net.specs.declared.settled.Settled.{Settled}
use Rattle.flow_net.specs.declared.settled.Settled.TheVariants.{Quiet}
use Rattle.flow_record_text.specs.Records.{PostAll, input_names, posted_endings, posted_values}
use Rattle.flow_report.specs.Complete.{is_complete}
use Rattle.flow_report.specs.Report.{report}
use Rattle.bevelrose_c.specs.Ran.{Begins, IsPosted, IsReported, IsUnreported}
use Rattle.bevelrose_c.specs.declared.refusal.Refusal.TheVariants.{Ids}

-- there are as many names of inputs as inputs
one_more : (b : Bool) (name : List ℕ) (rest : List (List ℕ)) → length (cond b (name ∷ []) [] ++ rest) ≡ cond {A = ℕ} b 1 0 + length rest
one_more true name rest = omega arith
one_more false name rest = omega arith

pub each_named : {W : Type 0} (blocks : List (BlockDef W)) → length (input_names blocks) ≡ count_by (λ block. block.input) blocks
each_named [] = refl
each_named (block ∷ blocks) = one_more block.input block.name (input_names blocks) ∙ ap (λ (n : ℕ). cond {A = ℕ} block.input 1 0 + n) (each_named blocks)
    ∙ sym (sum_by-cons (λ block. cond {A = ℕ} block.input 1 0) block blocks)

pub as_many : (posted : List Posted) (n : ℕ) → posted_endings posted ≡ replicate n Complete → length posted ≡ n
as_many posted n e = sym (length-map posted (λ input. input.ending)) ∙ ap length e ∙ length-replicate n Complete

-- inputs that complete end by no fault
pub none_faults : (posted : List Posted) (n : ℕ) → posted_endings posted ≡ replicate n Complete → every ends_by_number (map input_of posted) ≡ true
none_faults [] n e = refl
none_faults (input ∷ posted) zero e = absurd (cc)
none_faults (input ∷ posted) (suc n) e =
    let first : input.ending ≡ Complete = cc in let rest : posted_endings posted ≡ replicate n Complete = cc in
    and_from (is_numbered_ending input.ending) (every ends_by_number (map input_of posted)) (ap is_numbered_ending first) (none_faults posted n rest)

values_given : (posted : List Posted) → map (λ (input : InputTrace). input.posted) (map input_of posted) ≡ posted_values posted
values_given [] = refl
values_given (input ∷ posted) = ap (λ (values : List (List Value)). input.values.items ∷ values) (values_given posted)

endings_given : (posted : List Posted) → map (λ (input : InputTrace). input.ending) (map input_of posted) ≡ posted_endings posted
endings_given [] = refl
endings_given (input ∷ posted) = ap (λ (endings : List Ending). input.ending ∷ endings) (endings_given posted)

module _ (plan : Layout Steps) (records : List ℕ) where
  -- a network that is made of a plan, and of what the records post, begins
  pub begins_made : (layout : Layout Steps) (start : NetState) (posted : List Posted) → layout ≡ plan
      → (run_with meaning_of layout start).trace.inputs ≡ map input_of posted → start ≡ fresh_net layout (map input_of posted)
      → PostAll (input_names plan.blocks) records (posted_values posted) → posted_endings posted ≡ replicate (length (input_names plan.blocks)) Complete
      → Begins plan records start
  begins_made layout start posted same made fresh values endings =
      let given : map (λ (input : InputTrace). input.posted) (run_with meaning_of plan start).trace.inputs ≡ posted_values posted =
      ap (map (λ (input : InputTrace). input.posted)) made ∙ values_given posted in
      record {
        fresh = fresh ∙ ap (λ (l : Layout Steps). fresh_net l (map input_of posted)) same ∙ ap (fresh_net plan) (sym made);
        posted = record {
          values = subst (PostAll (input_names plan.blocks) records) (sym given) values;
          endings = ap (map (λ (input : InputTrace). input.ending)) made ∙ endings_given posted ∙ endings;
        };
      }

  -- in a network that begins no value is posted to a target that has not answered
  pub none_at_first : {start : NetState} → Begins plan records start → none_posted start ≡ true
  none_at_first {start = start} begins = subst (λ (net : NetState). none_posted net ≡ true) (sym begins.fresh) (fresh_none_posted (run_with meaning_of plan start).trace.inputs)

  -- as long as no input changes, the inputs are given the same
  pub still_posted : (start now : NetState) → (run_with meaning_of plan now).trace.inputs ≡ (run_with meaning_of plan start).trace.inputs
      → IsPosted records (run_with meaning_of plan start) → IsPosted records (run_with meaning_of plan now)
  still_posted start now same posted = record {
    values = subst (λ (inputs : List InputTrace). PostAll (input_names plan.blocks) records (map (λ (input : InputTrace). input.posted) inputs)) (sym same) posted.values;
    endings = ap (map (λ (input : InputTrace). input.ending)) same ∙ posted.endings;
  }

-- what an owner made of a network that had begun
module _ {w : _} {e : _} (limit : ℕ) (old new : Net Steps w e) (same : layout_in new ≡ layout_in old)
    (same_inputs : none_posted (parts_of old) ≡ true → (run_of meaning_of new).trace.inputs ≡ (run_of meaning_of old).trace.inputs)
    (lawful : Lawful (run_of meaning_of new)) where
  abbrev plan : Layout Steps
  plan = layout_in old

  in_plan : (P : Layout Steps → Type 0) → P (layout_in new) → P plan
  in_plan P = subst P same

  pub reported : (how : Settled) (complete : Bool) (written : List ℕ) → NetSettles meaning_of limit old new how
      → (how ≡ Quiet → IsQuiet (run_of meaning_of new)) → written ≡ report (run_of meaning_of new) how → complete ≡ is_complete (run_of meaning_of new)
      → (records : List ℕ) → Begins plan records (parts_of old) → IsReported plan records limit how complete written
  reported how complete written settles quiet is_written told records begins = record {
    start = parts_of old;
    now = parts_of new;
    begins = begins;
    settles = settles;
    lawful = in_plan (λ layout. Lawful (run_with meaning_of layout (parts_of new))) lawful;
    posted = still_posted plan records (parts_of old) (parts_of new) (same_inputs (none_at_first plan records begins)) begins.posted;
    quiet = λ is. in_plan (λ layout. IsQuiet (run_with meaning_of layout (parts_of new))) (quiet is);
    report_is = in_plan (λ layout. written ≡ report (run_with meaning_of layout (parts_of new)) how) is_written;
    complete_is = in_plan (λ layout. complete ≡ is_complete (run_with meaning_of layout (parts_of new))) told;
  }

  pub no_ids : NetGoesOn meaning_of limit old new → NetNeedsId meaning_of new
      → (records : List ℕ) → Begins plan records (parts_of old) → IsUnreported plan records limit Ids
  no_ids goes needs records begins = record {
    start = parts_of old;
    now = parts_of new;
    begins = begins;
    goes_on = goes;
    lawful = in_plan (λ layout. Lawful (run_with meaning_of layout (parts_of new))) lawful;
    posted = still_posted plan records (parts_of old) (parts_of new) (same_inputs (none_at_first plan records begins)) begins.posted;
    used_up = in_plan (λ layout. NeedsId layout (works_of meaning_of layout) (parts_of new)) needs;
  }
