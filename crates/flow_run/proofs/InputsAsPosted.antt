-- What the records post is what the inputs of a network are given.
use Rattle.std.proofs.Common.{◌≡◌, ◌↔◌, ℕ, zero, suc, ◌+◌, Bool, true, false, cond, List, [], ◌∷◌, ◌++◌, length, map, replicate, IfSome, Option, count_by, refl, ap, sym, subst, inl, inr, ◌∙◌, arith}
use Rattle.std.proofs.lemmas.Bool.{and_from}
use Rattle.std.proofs.lemmas.List.{length-map, length-replicate}
use Rattle.std.proofs.lemmas.List.Sums.{sum_by-cons}
use Rattle.flow_value.specs.Function.{meaning_of}
use Rattle.flow_value.specs.declared.steps.Steps.{Steps}
use Rattle.flow_value.specs.declared.value.Value.{Value}
use Rattle.flow_link.specs.declared.draft.BlockDef.{BlockDef}
use Rattle.flow_link.specs.declared.trace.Ending.TheVariants.{Complete}
use Rattle.flow_link.specs.Layout.{Layout}
use Rattle.flow_lawful.specs.Lawful.{Lawful}
use Rattle.flow_lawful.specs.Quiet.{Quiet as IsQuiet}
use Rattle.flow_link.specs.Trace.{InputTrace}
use Rattle.flow_link.specs.declared.trace.Ending.{Ending}
use Rattle.flow_core.specs.Inputs.{none_posted}
use Rattle.flow_core.specs.State.{NetState}
use Rattle.flow_core.proofs.InputsChange.{fresh_none_posted, same_where_none_posted}
use Rattle.flow_exec.specs.Works.{works_of}
use Rattle.flow_net.specs.Net.{NetGoesOn, NetIsStill, NetSettles, layout_in, parts_of, run_of, run_with}
use Rattle.flow_link.specs.Posted.{input_of, is_numbered_ending, ends_by_number}
use Rattle.flow_link.specs.Lists.{every}
use Rattle.flow_net.specs.Settles.{Settles, GoesOn}
use Rattle.flow_net.specs.declared.net.Net.{Net}
use Rattle.flow_link.specs.declared.posted.Posted.{Posted}
use Rattle.flow_net.specs.declared.settled.Settled.{Settled}
use Rattle.flow_net.specs.declared.settled.Settled.TheVariants.{Quiet}
use Rattle.flow_crew.specs.Runs.{IsLeft, RunsOn}
use Rattle.flow_crew.specs.declared.run.RunFault.{RunFault}
use Rattle.flow_crew.specs.declared.run.RunFault.TheVariants as run
use Rattle.flow_pace.specs.Alone.{IsLeftAlone}
use Rattle.flow_fault_text.specs.declared.fault.TextFault.TheVariants.{Write}
use Rattle.flow_fault_text.specs.declared.fault.TextRefusal.{TextRefusal}
use Rattle.flow_fault_text.specs.declared.fault.TextRefusal.TheVariants.{Fault, Memory}
use Rattle.flow_plan_text.specs.Plan.{IsUnplannedFor}
use Rattle.flow_run.specs.Ran.{Begins, HasEnded, HasRun, HasUnreadRecords, HasUnwrittenReport, IsPosted, IsReported, IsReportedOf, IsUnbegun, IsUnreported}
use Rattle.flow_run.specs.Refusal.{refusal_of, told_as}
use Rattle.flow_run.specs.declared.outcome.Ran.{Ran}
use Rattle.flow_record_text.specs.Records.{PostAll, input_names, posted_endings, posted_values}

names_more : (b : Bool) (name : List ℕ) (rest : List (List ℕ)) → length (cond b (name ∷ []) [] ++ rest) ≡ cond {A = ℕ} b 1 0 + length rest
names_more true name rest = omega arith
names_more false name rest = omega arith

pub names_count : {W : Type 0} (blocks : List (BlockDef W)) → length (input_names blocks) ≡ count_by (λ block. block.input) blocks
names_count [] = refl
names_count (block ∷ blocks) =
    names_more block.input block.name (input_names blocks) ∙ ap (λ (n : ℕ). cond {A = ℕ} block.input 1 0 + n) (names_count blocks)
    ∙ sym (sum_by-cons (λ block. cond {A = ℕ} block.input 1 0) block blocks)

pub as_many : (posted : List Posted) (n : ℕ) → posted_endings posted ≡ replicate n Complete → length posted ≡ n
as_many posted n e = sym (length-map posted (λ input. input.ending)) ∙ ap length e ∙ length-replicate n Complete

-- inputs that complete end by no fault
pub complete_numbered : (posted : List Posted) (n : ℕ) → posted_endings posted ≡ replicate n Complete → every ends_by_number (map input_of posted) ≡ true
complete_numbered [] n e = refl
complete_numbered (input ∷ posted) zero e = absurd (cc)
complete_numbered (input ∷ posted) (suc n) e =
    let first : input.ending ≡ Complete = cc in
    let rest : posted_endings posted ≡ replicate n Complete = cc in
    and_from (is_numbered_ending input.ending) (every ends_by_number (map input_of posted)) (ap is_numbered_ending first)
    (complete_numbered posted n rest)

pub given_values : (posted : List Posted) → map (λ (input : InputTrace). input.posted) (map input_of posted) ≡ posted_values posted
given_values [] = refl
given_values (input ∷ posted) = ap (λ (values : List (List Value)). input.values.items ∷ values) (given_values posted)

pub given_endings : (posted : List Posted) → map (λ (input : InputTrace). input.ending) (map input_of posted) ≡ posted_endings posted
given_endings [] = refl
given_endings (input ∷ posted) = ap (λ (endings : List Ending). input.ending ∷ endings) (given_endings posted)

-- the inputs of a network are given what was posted to those of its plan
pub posts_to_inputs : (records : Option (List ℕ)) (layout : Layout Steps) (start : NetState) (posted : List Posted) → (run_with meaning_of layout start).trace.inputs ≡ map input_of posted
    → IfSome records (λ bytes. PostAll (input_names layout.blocks) bytes (posted_values posted))
    → posted_endings posted ≡ replicate (length (input_names layout.blocks)) Complete → IsPosted records (run_with meaning_of layout start)
posts_to_inputs records layout start posted made values endings =
    let given : map (λ (input : InputTrace). input.posted) (run_with meaning_of layout start).trace.inputs ≡ posted_values posted =
    ap (map (λ (input : InputTrace). input.posted)) made ∙ given_values posted in
    record {
      values = subst (λ (v : List (List Value)). IfSome records (λ bytes. PostAll (input_names layout.blocks) bytes v)) (sym given) values;
      endings = ap (map (λ (input : InputTrace). input.ending)) made ∙ given_endings posted ∙ endings;
    }

-- in a network that begins, no value is posted to a target that has not answered
pub none_at_first : {text : List ℕ} {records : Option (List ℕ)} {layout : Layout Steps} {start : NetState} → Begins text records layout start
    → none_posted start ≡ true
none_at_first {layout = layout} {start = start} begins = subst (λ (net : NetState). none_posted net ≡ true) (sym begins.fresh)
    (fresh_none_posted (run_with meaning_of layout start).trace.inputs)

-- as long as no input changes, they are given the same
pub posted_as : (records : Option (List ℕ)) (layout : Layout Steps) (start now : NetState) → (run_with meaning_of layout now).trace.inputs ≡ (run_with meaning_of layout start).trace.inputs
    → IsPosted records (run_with meaning_of layout start) → IsPosted records (run_with meaning_of layout now)
posted_as records layout start now same posted = record {
  values = subst (λ (inputs : List InputTrace). IfSome records (λ bytes. PostAll (input_names layout.blocks) bytes (map (λ (input : InputTrace). input.posted) inputs))) (sym same) posted.values;
  endings = ap (map (λ (input : InputTrace). input.ending)) same ∙ posted.endings;
}

-- a network keeps its plan
pub begins_as : {now layout : Layout Steps} {start : NetState} {text : List ℕ} {records : Option (List ℕ)} → now ≡ layout
    → Begins text records layout start → Begins text records now start
begins_as {start = start} {text = text} {records = records} same begins = subst (λ (l : Layout Steps). Begins text records l start) (sym same) begins

-- a network that begins, and what became of it
module _ {w : _} {e : _} (text : List ℕ) (records : Option (List ℕ)) (workers limit : ℕ) (old new : Net Steps w e) where
  goes_on_in : layout_in new ≡ layout_in old → NetGoesOn meaning_of limit old new
      → GoesOn (layout_in new) (works_of meaning_of (layout_in new)) limit (parts_of old) (parts_of new)
  goes_on_in same = subst (λ (l : Layout Steps). GoesOn l (works_of meaning_of l) limit (parts_of old) (parts_of new)) (sym same)

  settles_in : (how : Settled) → layout_in new ≡ layout_in old → NetSettles meaning_of limit old new how
      → Settles (layout_in new) (works_of meaning_of (layout_in new)) limit (parts_of old) (parts_of new) how
  settles_in how same = subst (λ (l : Layout Steps). Settles l (works_of meaning_of l) limit (parts_of old) (parts_of new) how) (sym same)

  pub begins_in : Begins text records (layout_in old) (parts_of old) → RunsOn old new → Begins text records (layout_in new) (parts_of old)
  begins_in begins runs = begins_as runs.same_layout begins

  pub has_run : Begins text records (layout_in old) (parts_of old) → RunsOn old new → Lawful (run_of meaning_of new)
      → (workers ≡ 1 → NetGoesOn meaning_of limit old new)
      → HasRun records workers limit (layout_in new) (parts_of old) (parts_of new)
  has_run begins runs lawful alone = record {
    lawful = lawful;
    posted = posted_as records (layout_in new) (parts_of old) (parts_of new)
        (same_where_none_posted (parts_of old) (parts_of new) runs.inputs_stay (none_at_first begins)) (begins_in begins runs).posted;
    one_by_one = λ is_one. goes_on_in runs.same_layout (alone is_one);
  }

  pub has_ended : (how : Settled) → RunsOn old new → ((how ≡ Quiet) ↔ NetIsStill meaning_of new)
      → (how ≡ Quiet → IsQuiet (run_of meaning_of new)) → (workers ≡ 1 → NetSettles meaning_of limit old new how)
      → HasEnded workers limit (layout_in new) (parts_of old) (parts_of new) how
  has_ended how runs still quiet alone = record {
    still = still;
    quiet = quiet;
    settles = λ is_one. settles_in how runs.same_layout (alone is_one);
  }

  -- whoever settles goes on
  pub goes_on : (how : Settled) → NetSettles meaning_of limit old new how → NetGoesOn meaning_of limit old new
  goes_on how settles = record { count = settles.count; within = settles.within; happened = settles.happened }

-- what is reported of a network that is there is reported
pub is_reported : {text : List ℕ} {records : Option (List ℕ)} {workers limit : ℕ} {Written : List ℕ → Type 0} {layout : Layout Steps}
    {now : NetState} {ran : Ran} → IsReportedOf text records workers limit Written layout now ran
    → IsReported text records workers limit Written ran
is_reported {layout = layout} {now = now} reported = record { layout = layout; now = now; reported = reported }

-- why there is no plan, no posted values, no network, no end of the run, or no report
module _ (text : List ℕ) (records : Option (List ℕ)) where
  pub no_plan : (refusal : TextRefusal) → IsUnplannedFor text refusal → IsUnbegun text records (refusal_of refusal)
  no_plan (Fault fault) h = inl h
  no_plan Memory h = tt

  pub no_records : (refusal : TextRefusal) → HasUnreadRecords text records refusal → IsUnbegun text records (refusal_of refusal)
  no_records (Fault fault) h = inr h
  no_records Memory h = tt

  pub no_end : {w : _} {e : _} (workers limit : ℕ) (old : Net Steps w e) (fault : RunFault Steps w e)
      → Begins text records (layout_in old) (parts_of old) → IsLeft meaning_of old fault
      → (workers ≡ 1 → IsLeftAlone meaning_of limit old fault) → IsUnreported text records workers limit (told_as fault)
  no_end workers limit old (run.Ids net) begins left alone = record {
    layout = layout_in net;
    start = parts_of old;
    now = parts_of net;
    begins = begins_in text records workers limit old net begins left.0;
    has_run = has_run text records workers limit old net begins left.0 left.1.0 alone;
    used_up = left.1.1;
  }
  no_end workers limit old (run.Net net) begins left alone = tt
  no_end workers limit old (run.Parts parts) begins left alone = tt

  pub no_report : (workers limit : ℕ) (refusal : TextRefusal) → refusal ≡ Fault Write → HasUnwrittenReport text records workers limit Write
      → IsUnreported text records workers limit (refusal_of refusal)
  no_report workers limit refusal is h =
      subst (λ (r : TextRefusal). IsUnreported text records workers limit (refusal_of r)) (sym is) (inr h)
