-- An input in order keeps what each input of a lawful run keeps, and rests where its link does.
use Rattle.std.proofs.Common.{◌≡◌, ℕ, zero, suc, ◌<◌, ◌≤◌, Bool, true, false, List, [], ◌∷◌, length, take, drop, Some, None, refl, ap, sym, ◌∙◌, arith}
use Rattle.std.proofs.lemmas.Bool.{ltb-true, ltb-false}
use Rattle.std.proofs.lemmas.List.{take_all}
use Rattle.flow_value.specs.declared.value.Value.{Value}
use Rattle.flow_link.specs.declared.phase.LinkEnd.{LinkEnd}
use Rattle.flow_link.specs.declared.phase.LinkEnd.TheVariants as link_end
use Rattle.flow_link.specs.declared.stage.SourceStage.{SourceStage}
use Rattle.flow_link.specs.declared.stage.SourceStage.TheVariants as source
use Rattle.flow_link.specs.declared.trace.Ending.{Ending}
use Rattle.flow_link.specs.declared.trace.Ending.TheVariants as ending
use Rattle.flow_lawful.specs.Composes.{Ends, InputKeeps}
use Rattle.flow_link.specs.Lists.{is_empty, is_front}
use Rattle.flow_lawful.specs.Quiet.{is_open}
use Rattle.flow_lawful.specs.RestsByParts.{InputIsStill, InputRests, is_over, is_to_hand_over, is_wished_for}
use Rattle.flow_link.specs.Stage.{source_stage_of}
use Rattle.flow_link.specs.Trace.{InputTrace, Run, input_of}
use Rattle.flow_link.specs.Views as views
use Rattle.flow_outlet.specs.End.{id_of}
use Rattle.flow_input.specs.Input.{InputState, has_next, end_by, end_move, move_from, input_move}
use Rattle.flow_input.specs.InputKeeps.{InputLaw, IsInputOf, InputsAreParts}
use Rattle.flow_link.specs.Stage.{is_kept}
use Rattle.flow_link.specs.Stage.{rests_out, is_asked}
use Rattle.flow_link.proofs.StagesKept.{ended_stage, free_back}
use Rattle.flow_input.proofs.InputLists.{front_taken}

-- what is left behind a first part
none_left : (values : List Value) (n : ℕ) → length values ≤ n → is_empty (drop (length (take n values)) values) ≡ true
none_left [] zero all = refl
none_left [] (suc n) all = refl
none_left (value ∷ values) zero all = absurd (omega arith)
none_left (value ∷ values) (suc n) all = none_left values n (omega arith)

some_left : (values : List Value) (n : ℕ) → n < length values → is_empty (drop (length (take n values)) values) ≡ false
some_left [] n small = absurd (omega arith)
some_left (value ∷ values) zero small = refl
some_left (value ∷ values) (suc n) small = some_left values n (omega arith)

-- how an input is to end, where its link ends so
completes : (how : Ending) → end_by how ≡ Some link_end.Complete → how ≡ ending.Complete
completes ending.Complete e = refl
completes _ e = absurd (cc)

faults : (how : Ending) (number : ℕ) → end_by how ≡ Some (link_end.Fault number) → how ≡ ending.Fault number
faults (ending.Fault other) number e = ap (λ (n : ℕ). ending.Fault n) (cc)
faults _ number e = absurd (cc)

never_plainly : (how : Ending) → end_by how ≡ Some link_end.Plain → ⊥
never_plainly ending.Open e = cc
never_plainly ending.Complete e = cc
never_plainly (ending.Fault number) e = cc

-- an input that would do nothing next
record IsStill (stage : SourceStage) : Type 0 where
  gives : is_to_hand_over (source_stage_of stage) ≡ false
  answers : is_wished_for (source_stage_of stage) ≡ false

still_at : (input : InputState) (stage : SourceStage) → is_asked stage ≡ false → is_kept stage ≡ false
    → move_from input stage ≡ None → IsStill stage
still_at input (source.Accepted i) asked kept none = absurd (cc)
still_at input (source.Wished i) asked kept none = absurd (cc)
still_at input (source.AskedBy i) asked kept none = absurd (cc)
still_at input (source.Claimed i) asked kept none = absurd (cc)
still_at input _ asked kept none = record { gives = refl; answers = refl }

-- one that is free has nothing to offer, and is to stay open
open_where : (how : Ending) → end_move (end_by how) ≡ None → is_open how ≡ true
open_where ending.Open e = refl
open_where ending.Complete e = absurd (cc)
open_where (ending.Fault number) e = absurd (cc)

record HasNone (input : InputState) : Type 0 where
  none : has_next input ≡ false
  stays_open : is_open input.ending ≡ true

free_none : (input : InputState) (there : Bool) → has_next input ≡ there → move_from input source.Free ≡ None
    → HasNone input
free_none input true there e = absurd (none_of there e)
  where
    none_of : has_next input ≡ true → move_from input source.Free ≡ None → ⊥
    none_of there e = let some = rw there at e in cc
free_none input false there e = record { none = there; stays_open = open_where input.ending (rw there at e) }

over_at : (input : InputState) → InputLaw input → (stage : SourceStage) → input.stage ≡ stage → rests_out stage ≡ true
    → move_from input stage ≡ None
    → is_open input.ending ≡ false → is_empty (drop (length (take input.sent input.posted)) input.posted) ≡ true
    → is_over (source_stage_of stage) ≡ true
over_at input law source.Free at rests none ends empty =
    let stays_open = (free_none input (has_next input) refl none).stays_open in absurd (cc)
over_at input law (source.Waiting i) at rests none ends empty =
    let there = (law.speaks i (ap id_of at)).1 in
    let some = some_left input.posted input.sent (ltb-true input.sent (length input.posted) there) in
    absurd (cc)
over_at input law source.Refused at rests none ends empty = refl
over_at input law (source.Ended how) at rests none ends empty = refl
over_at input law _ at rests none ends empty = absurd (cc)

module _ {W : Type 0} (run : Run W) (ends : ℕ → Ends) (l b : ℕ) (input : InputState) (law : InputLaw input)
    (is : IsInputOf run ends l b input) where
  stage_is : (ends l).source.stage ≡ source_stage_of input.stage
  stage_is = ap (λ (view : views.SourceView Value). view.stage) is.source

  ended_where : (how : LinkEnd) → (ends l).source.stage ≡ views.SourceStage.ended how
      → (end_by input.ending ≡ Some how) × (input.sent ≡ length input.posted)
  ended_where how e = law.ended how (ended_stage input.stage how (sym stage_is ∙ e))

  all_given : input.sent ≡ length input.posted → (ends l).source.given ≡ (input_of run b).posted
  all_given all =
      ap (λ (view : views.SourceView Value). view.given) is.source ∙ take_all input.sent input.posted (omega arith)
      ∙ sym (ap (λ (trace : InputTrace). trace.posted) is.trace)

  left_is : is_empty (drop (length (ends l).source.given) (input_of run b).posted)
      ≡ is_empty (drop (length (take input.sent input.posted)) input.posted)
  left_is =
      ap (λ (view : views.SourceView Value). is_empty (drop (length view.given) (input_of run b).posted)) is.source
      ∙ ap (λ (trace : InputTrace). is_empty (drop (length (take input.sent input.posted)) trace.posted)) is.trace

  ending_is : (input_of run b).ending ≡ input.ending
  ending_is = ap (λ (trace : InputTrace). trace.ending) is.trace

  keeps_parts : InputKeeps run ends l b
  keeps_parts = record {
    from_start = ap (λ (view : views.SourceView Value). view.before) is.source;
    given = ap (λ (view : views.SourceView Value). is_front view.given (input_of run b).posted) is.source
        ∙ ap (λ (trace : InputTrace). is_front (take input.sent input.posted) trace.posted) is.trace
        ∙ front_taken input.posted input.sent;
    after_complete = λ e. let told = ended_where link_end.Complete e in
        (ending_is ∙ completes input.ending told.0, all_given told.1);
    after_fault = λ number e. let told = ended_where (link_end.Fault number) e in
        (ending_is ∙ faults input.ending number told.0, all_given told.1);
    never_plain = λ e. never_plainly input.ending (ended_where link_end.Plain e).0;
  }

  is_still : is_asked input.stage ≡ false → input_move input ≡ None → InputIsStill run ends l
  is_still asked none =
      let still = still_at input input.stage asked law.none_kept none in
      record { gives = ap is_to_hand_over stage_is ∙ still.gives; answers = ap is_wished_for stage_is ∙ still.answers }

  rests_with : rests_out input.stage ≡ true → input_move input ≡ None → InputRests run ends l b
  rests_with rests none = record {
    ended = λ closed empty. ap is_over stage_is
        ∙ over_at input law input.stage refl rests none (ap is_open (sym ending_is) ∙ closed) (sym left_is ∙ empty);
    offered = λ e.
        let free : input.stage ≡ source.Free = free_back input.stage (sym stage_is ∙ e) in
        let has = free_none input (has_next input) refl (ap (move_from input) (sym free) ∙ none) in
        left_is ∙ none_left input.posted input.sent (ltb-false input.sent (length input.posted) has.none);
  }

pub inputs_are_parts : (W : Type 0) → InputsAreParts W
inputs_are_parts W = record {
  keeps = λ run ends l b input law is. keeps_parts run ends l b input law is;
  still = λ run ends l b input law is asked none. is_still run ends l b input law is asked none;
  rests = λ run ends l b input law is rests none. rests_with run ends l b input law is rests none;
}
