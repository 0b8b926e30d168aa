-- Each call moves what the end of an input knows as the laws of one link have it, and what it would do next it may.
use Rattle.std.proofs.Common.{◌≡◌, ◌+◌, cond, Bool, true, false, List, [], ◌∷◌, ◌++◌, take, drop, Option, Some, None, refl, ap, ◌∙◌, subst, arith}
use Rattle.std.proofs.lemmas.List.{length-take-le, take-append-le, take_at}
use Rattle.flow_value.specs.declared.value.Value.{Value}
use Rattle.flow_link.specs.declared.phase.LinkEnd.{LinkEnd}
use Rattle.flow_link.specs.declared.phase.Move.{Move}
use Rattle.flow_link.specs.declared.phase.Move.TheVariants as move
use Rattle.flow_link.specs.declared.phase.Phase.{Phase}
use Rattle.flow_link.specs.declared.stage.SourceStage.{SourceStage}
use Rattle.flow_link.specs.declared.stage.SourceStage.TheVariants.{Free, Posted, Accepted, Wished, Crossing}
use Rattle.flow_link.specs.Looks.{looking_out}
use Rattle.flow_link.specs.Moves.{source_at}
use Rattle.flow_link.specs.Posted.{ends_by_number}
use Rattle.flow_link.specs.Stage.{source_stage_of, source_looks}
use Rattle.flow_link.specs.Trace.{InputTrace}
use Rattle.flow_link.specs.Views as views
use Rattle.flow_link.proofs.StagesKept.{source_looks_kept}
use Rattle.flow_outlet.specs.End.{is_free}
use Rattle.flow_input.specs.Input.{InputState, InputCall, after_input, end_by, end_move, fresh_input, has_next, input_view, is_turned_down, is_wanted, move_from, next_id, stands_at, takes_back}
use Rattle.flow_input.specs.InputKeeps.{InputLaw, InputsKeep, MayCallInput, MayMoveInput, MovesInput}
use Rattle.flow_input.proofs.InputLists.{next_of, take_twice}
use Rattle.flow_input.proofs.InputLooks.{down_free, wanted_id}
use Rattle.flow_input.proofs.InputsInOrder.{call_keeps, wanted_next}

-- an end that has given these values
abbrev seen_with : InputState → views.SourceStage → List Value → views.SourceView Value
seen_with input stage given = record { before = 0; given = given; last = input.sent; stage = stage }

look_moves : (input : InputState) (phase : Phase) (down : Bool) → is_turned_down input.stage phase ≡ down
    → input_view (cond down (takes_back input) (stands_at (source_looks input.stage phase) input)) ≡ looking_out phase (input_view input)
look_moves input phase true is =
    ap (seen_with input views.SourceStage.free) (take_twice input.sent input.posted)
    ∙ ap (λ (stage : views.SourceStage). source_at stage (input_view input)) (down_free input.stage phase is)
look_moves input phase false is =
    ap (λ (stage : views.SourceStage). source_at stage (input_view input)) (source_looks_kept input.stage phase)

module _ (input : InputState) (law : InputLaw input) where
  -- a value that is put at the end is not given yet
  put_unseen : (value : Value) → take input.sent (input.posted ++ value ∷ []) ≡ take input.sent input.posted
  put_unseen value = take-append-le input.sent input.posted (value ∷ []) law.within

  call_moves : (call : InputCall) → MayCallInput call input → MovesInput input (after_input call input) call
  call_moves InputCall.offer may = refl
  call_moves InputCall.give may =
      let id = wanted_id input.stage may in
      let next = next_of input.posted input.sent (wanted_next input law may) in
      let crossing = source_stage_of Crossing in
      record {
        value = next.value;
        next = next.first;
        ready = (law.speaks id.0 id.1).2 ∙ next.first;
        view = ap (λ (vs : List Value). record { before = 0; given = vs; last = next_id input; stage = crossing })
            next.more;
      }
  call_moves (InputCall.end_link how) may = refl
  call_moves (InputCall.look phase) may = look_moves input phase (is_turned_down input.stage phase) refl
  call_moves (InputCall.post value) may = ap (seen_with input (source_stage_of (Posted (next_id input)))) (put_unseen value)
  call_moves (InputCall.begin value) may = ap (seen_with input (source_stage_of input.stage)) (put_unseen value)
  call_moves (InputCall.send_back value at_once) may = refl
  call_moves InputCall.tell may = refl
  call_moves InputCall.hand_back may = refl
  call_moves InputCall.refuse_back may =
      let front = take input.sent input.posted in
      let rest = drop (input.sent + 1) input.posted in
      ap (seen_with input (source_stage_of input.stage)) (take_at front rest input.sent (length-take-le input.sent input.posted law.within))
  call_moves (InputCall.finish how) may = refl

-- what it would do next, from where it stands
end_next : (input : InputState) (next : Move) → is_free input.stage ≡ true → has_next input ≡ false
    → (end : Option LinkEnd)
    → end_by input.ending ≡ end → end_move end ≡ Some next → MayMoveInput input next
end_next input next free none None told e = absurd (cc)
end_next input next free none (Some how) told e =
    let same : move.End how ≡ next = cc in
    subst (MayMoveInput input) same (record { is_at_home = free; all = none; as_told = told })

free_next : (input : InputState) (next : Move) → is_free input.stage ≡ true → (there : Bool) → has_next input ≡ there
    → cond there (Some (move.Offer (next_id input))) (end_move (end_by input.ending)) ≡ Some next
    → MayMoveInput input next
free_next input next free true there e =
    let same : move.Offer (next_id input) ≡ next = cc in
    subst (MayMoveInput input) same (refl, record { is_at_home = free; there = there })
free_next input next free false there e = end_next input next free there (end_by input.ending) refl e

next_from : (input : InputState) (next : Move) (stage : SourceStage) → input.stage ≡ stage
    → move_from input stage ≡ Some next
    → MayMoveInput input next
next_from input next Free at e = free_next input next (ap is_free at) (has_next input) refl e
next_from input next (Accepted i) at e =
    let same : move.Give ≡ next = cc in
    subst (MayMoveInput input) same (ap is_wanted at)
next_from input next (Wished i) at e =
    let same : move.Give ≡ next = cc in
    subst (MayMoveInput input) same (ap is_wanted at)
next_from input next _ at e = absurd (cc)

fresh_in_order : (trace : InputTrace) → ends_by_number trace ≡ true → InputLaw (fresh_input trace)
fresh_in_order trace numbered = record {
  within = omega arith;
  speaks = λ i e. absurd (cc);
  posts = λ e. absurd (cc);
  none_kept = refl;
  by_number = numbered;
  ended = λ how e. absurd (cc);
  told = omega arith;
  crossing = λ e. absurd (cc);
  back = λ e. absurd (cc);
  directly = λ a n. absurd (cc);
}

pub inputs_keep : InputsKeep
inputs_keep = record {
  fresh = fresh_in_order;
  calls = λ input call law may. call_keeps input law call may;
  views = λ input call law may. call_moves input law call may;
  next = λ input next law e. next_from input next input.stage refl e;
}
