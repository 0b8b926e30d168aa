-- What is read of the records of a chunk is what the inputs of its network are given.
use Rattle.std.proofs.Common.{◌≡◌, ℕ, zero, suc, ◌+◌, Bool, true, false, cond, List, [], ◌∷◌, ◌++◌, length, map, replicate, count_by, refl, ap, sym, subst, ◌∙◌, arith}
use Rattle.std.proofs.lemmas.Bool.{and_from}
use Rattle.std.proofs.lemmas.List.{length-map, length-replicate}
use Rattle.std.proofs.lemmas.List.Sums.{sum_by-cons}
use Rattle.flow_value.specs.Function.{meaning_of}
use Rattle.flow_value.specs.declared.steps.Steps.{Steps}
use Rattle.flow_value.specs.declared.value.Value.{Value}
use Rattle.flow_link.specs.Lists.{every}
use Rattle.flow_link.specs.declared.draft.BlockDef.{BlockDef}
use Rattle.flow_link.specs.declared.posted.Posted.{Posted}
use Rattle.flow_link.specs.declared.trace.Ending.{Ending}
use Rattle.flow_link.specs.declared.trace.Ending.TheVariants.{Complete}
use Rattle.flow_link.specs.Layout.{Layout}
use Rattle.flow_link.specs.Posted.{input_of, is_numbered_ending, ends_by_number}
use Rattle.flow_link.specs.Trace.{InputTrace}
use Rattle.flow_core.specs.Inputs.{none_posted}
use Rattle.flow_core.specs.State.{NetState, fresh_net}
use Rattle.flow_core.proofs.InputsChange.{fresh_none_posted, same_where_none_posted}
use Rattle.flow_lawful.specs.Lawful.{Lawful}
use Rattle.flow_net.specs.Net.{layout_in, parts_of, run_with}
use Rattle.flow_net.specs.declared.net.Net.{Net}
use Rattle.flow_crew.specs.Runs.{RunsOn}
use Rattle.flow_report.specs.Complete.{is_complete}
use Rattle.flow_report.specs.Report.{run_in}
use Rattle.flow_record_text.specs.Records.{PostAll, input_names, posted_endings, posted_values}
use Rattle.flow_stream.specs.Chunk.{IsPosted, IsRunOver}

names_more : (b : Bool) (name : List ℕ) (rest : List (List ℕ)) → length (cond b (name ∷ []) [] ++ rest) ≡ cond {A = ℕ} b 1 0 + length rest
names_more true name rest = omega arith
names_more false name rest = omega arith

-- each input has one name
pub names_count : {W : Type 0} (blocks : List (BlockDef W)) → length (input_names blocks) ≡ count_by (λ block. block.input) blocks
names_count [] = refl
names_count (block ∷ blocks) =
    names_more block.input block.name (input_names blocks) ∙ ap (λ (n : ℕ). cond {A = ℕ} block.input 1 0 + n) (names_count blocks)
    ∙ sym (sum_by-cons (λ block. cond {A = ℕ} block.input 1 0) block blocks)

pub as_many : (posted : List Posted) (n : ℕ) → posted_endings posted ≡ replicate n Complete → length posted ≡ n
as_many posted n e = sym (length-map posted (λ input. input.ending)) ∙ ap length e ∙ length-replicate n Complete

-- inputs that complete end by no fault
pub complete_numbered : (posted : List Posted) (n : ℕ) → posted_endings posted ≡ replicate n Complete → every ends_by_number (map input_of posted) ≡ true
complete_numbered [] n e = refl
complete_numbered (input ∷ posted) zero e = absurd (cc)
complete_numbered (input ∷ posted) (suc n) e =
    let first : input.ending ≡ Complete = cc in
    let rest : posted_endings posted ≡ replicate n Complete = cc in
    and_from (is_numbered_ending input.ending) (every ends_by_number (map input_of posted)) (ap is_numbered_ending first)
    (complete_numbered posted n rest)

given_values : (posted : List Posted) → map (λ (input : InputTrace). input.posted) (map input_of posted) ≡ posted_values posted
given_values [] = refl
given_values (input ∷ posted) = ap (λ (values : List (List Value)). input.values.items ∷ values) (given_values posted)

given_endings : (posted : List Posted) → map (λ (input : InputTrace). input.ending) (map input_of posted) ≡ posted_endings posted
given_endings [] = refl
given_endings (input ∷ posted) = ap (λ (endings : List Ending). input.ending ∷ endings) (given_endings posted)

-- the inputs of a network are given what was posted to those of its plan
pub posts_to_inputs : (text : List ℕ) (layout : Layout Steps) (start : NetState) (posted : List Posted)
    → (run_with meaning_of layout start).trace.inputs ≡ map input_of posted
    → PostAll (input_names layout.blocks) text (posted_values posted)
    → posted_endings posted ≡ replicate (length (input_names layout.blocks)) Complete → IsPosted text (run_with meaning_of layout start)
posts_to_inputs text layout start posted made values endings =
    let given : map (λ (input : InputTrace). input.posted) (run_with meaning_of layout start).trace.inputs ≡ posted_values posted =
    ap (map (λ (input : InputTrace). input.posted)) made ∙ given_values posted in
    record {
      values = subst (λ (v : List (List Value)). PostAll (input_names layout.blocks) text v) (sym given) values;
      endings = ap (map (λ (input : InputTrace). input.ending)) made ∙ given_endings posted ∙ endings;
    }

-- a network keeps its plan
pub posted_in : (text : List ℕ) (now layout : Layout Steps) (start : NetState) → now ≡ layout
    → IsPosted text (run_with meaning_of layout start) → IsPosted text (run_with meaning_of now start)
posted_in text now layout start same posted = subst (λ (l : Layout Steps). IsPosted text (run_with meaning_of l start)) (sym same) posted

-- and its inputs are given the same as it goes on
pub posted_as : (text : List ℕ) (layout : Layout Steps) (start now : NetState)
    → (run_with meaning_of layout now).trace.inputs ≡ (run_with meaning_of layout start).trace.inputs
    → IsPosted text (run_with meaning_of layout start) → IsPosted text (run_with meaning_of layout now)
posted_as text layout start now same posted = record {
  values = subst (λ (inputs : List InputTrace). PostAll (input_names layout.blocks) text (map (λ (input : InputTrace). input.posted) inputs)) (sym same) posted.values;
  endings = ap (map (λ (input : InputTrace). input.ending)) same ∙ posted.endings;
}

-- as it goes on, it keeps its plan
pub keeps_plan : {w : _} {e : _} (plan : Layout Steps) (old new : Net Steps w e) → RunsOn old new → layout_in old ≡ plan → layout_in new ≡ plan
keeps_plan plan old new runs same = runs.same_layout ∙ same

-- a network that began with the records of a text and went on is a run over them, once all is through
pub runs_over : {w : _} {e : _} (text : List ℕ) (old new : Net Steps w e) → RunsOn old new → none_posted (parts_of old) ≡ true
    → IsPosted text (run_in old) → Lawful (run_in new) → is_complete (run_in new) ≡ true → IsRunOver text (run_in new)
runs_over text old new runs none posted lawful complete = record {
  posted = posted_as text (layout_in new) (parts_of old) (parts_of new)
      (same_where_none_posted (parts_of old) (parts_of new) runs.inputs_stay none)
      (posted_in text (layout_in new) (layout_in old) (parts_of old) runs.same_layout posted);
  lawful = lawful;
  complete = complete;
}

-- in a network that begins, no value is posted to a target that has not answered
pub none_at_first : (layout : Layout Steps) (start : NetState) (inputs : List InputTrace) → start ≡ fresh_net layout inputs → none_posted start ≡ true
none_at_first layout start inputs fresh = subst (λ (net : NetState). none_posted net ≡ true) (sym fresh) (fresh_none_posted inputs)
