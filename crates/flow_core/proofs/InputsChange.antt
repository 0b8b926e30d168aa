-- An event changes an input by one call of the network at most, so what is posted stays, but for what is turned down.
use Rattle.std.proofs.Common.{◌≡◌, ℕ, suc, Bool, true, false, not, List, [], ◌∷◌, ⊎_elim, length, map, set, get_or, Option, Some, None, Result, refl, ap, sym, subst, ◌∙◌}
use Rattle.std.specs.Option.{ForSome}
use Rattle.std.proofs.lemmas.Bool.{and_parts}
use Rattle.std.proofs.lemmas.List.{length-set}
use Rattle.flow_value.specs.declared.value.Value.{Value}
use Rattle.flow_link.specs.declared.phase.Move.{Move}
use Rattle.flow_link.specs.declared.phase.Move.TheVariants as move
use Rattle.flow_link.specs.declared.phase.Phase.{Phase}
use Rattle.flow_link.specs.declared.plan.Link.{Link}
use Rattle.flow_link.specs.declared.plan.LinkSource.{LinkSource}
use Rattle.flow_link.specs.declared.plan.LinkSource.TheVariants.{Block, Input}
use Rattle.flow_link.specs.declared.plan.LinkTarget.{LinkTarget}
use Rattle.flow_link.specs.declared.plan.LinkTarget.TheVariants.{Port, Exit}
use Rattle.flow_link.specs.Layout.{Layout}
use Rattle.flow_link.specs.Phase.{phase_after}
use Rattle.flow_link.specs.Plan.{link_in}
use Rattle.flow_link.specs.Trace.{InputTrace}
use Rattle.flow_link.specs.Lists.{every}
use Rattle.flow_link.proofs.PlacesTell.{element_set}
use Rattle.flow_outlet.specs.Law.{is_posted}
use Rattle.flow_block.specs.Planned.{input_place}
use Rattle.flow_input.specs.Input.{InputState, InputCall, fresh_input, input_trace, is_of_net, no_input}
use Rattle.flow_input.specs.InputKeeps.{InputLaw, PostedStays}
use Rattle.flow_input.specs.Sends.{sends_of}
use Rattle.flow_input.proofs.PostedKept.{posted_is_kept}
use Rattle.flow_input.proofs.TellsMay.{inputs_tell}
use Rattle.flow_core.specs.Events.{NetEvent, after, after_move, moved_by, source_moves, target_moves, source_sees, target_sees, with_line, line_after, with_input, is_of_source, input_after, input_call}
use Rattle.flow_core.specs.Inputs.{InputsAreChanged, InputsStay, IsChanged, input_of, none_posted}
use Rattle.flow_core.specs.State.{NetState, line_at, input_at}
use Rattle.flow_core.specs.Statements.{Answers, PostedListsStay}

call_of_net : (next : Move) → ForSome (input_call next) (λ made. is_of_net made ≡ true)
call_of_net (move.Offer i) call e = let same : InputCall.offer ≡ call = cc in subst (λ (made : InputCall). is_of_net made ≡ true) same refl
call_of_net move.Give call e = let same : InputCall.give ≡ call = cc in subst (λ (made : InputCall). is_of_net made ≡ true) same refl
call_of_net (move.End how) call e = let same : InputCall.end_link how ≡ call = cc in subst (λ (made : InputCall). is_of_net made ≡ true) same refl
call_of_net _ call e = absurd (cc)

not_changed : (input : InputState) → IsChanged input input
not_changed input = record { call = None; of_net = λ made e. absurd (cc); new_is = refl }

module _ {W : Type 0} (layout : Layout W) (meaning : ℕ → Value → Result (List Value) ℕ) where
  none_changed : (old new : NetState) → new.inputs ≡ old.inputs → InputsAreChanged old new
  none_changed old new same = record {
    count = ap (λ (all : List InputState). length all) same;
    each = λ k. subst (λ (all : List InputState). IsChanged (input_of old k) (get_or all k no_input)) (sym same) (not_changed (input_of old k));
  }

  one_changed : (b : ℕ) (call : Option InputCall) (old new : NetState) → ForSome call (λ made. is_of_net made ≡ true)
      → new.inputs ≡ (with_input layout b (input_after call) old).inputs → InputsAreChanged old new
  one_changed b call old new of_net same = record {
    count = ap (λ (all : List InputState). length all) same ∙ length-set old.inputs (input_place layout b) (input_after call (input_at layout old b));
    each = λ k. subst (λ (all : List InputState). IsChanged (input_of old k) (get_or all k no_input)) (sym same)
        (element_set (λ i input. IsChanged (input_of old i) input) old.inputs (input_place layout b) k
        (input_after call (input_at layout old b)) no_input
        (λ place. record {
          call = call;
          of_net = of_net;
          new_is = ap (λ (i : ℕ). input_after call (get_or old.inputs i no_input)) (sym place);
        })
        (not_changed (input_of old k)));
  }

  -- the target's part, and its look, change no input
  target_apart : (l : ℕ) (next : Move) (target : LinkTarget) (net : NetState) → (target_moves layout meaning l next target net).inputs ≡ net.inputs
  target_apart l next (Port t p) net = refl
  target_apart l next Exit net = refl

  pub sight_apart : (l : ℕ) (phase : Phase) (target : LinkTarget) (net : NetState) → (target_sees layout meaning l phase target net).inputs ≡ net.inputs
  sight_apart l phase (Port t p) net = refl
  sight_apart l phase Exit net = refl

  source_changes : (l : ℕ) (next : Move) (source : LinkSource) (old new : NetState)
      → new.inputs ≡ (source_moves layout meaning l next source old).inputs → InputsAreChanged old new
  source_changes l next (Block s) old new same = none_changed old new same
  source_changes l next (Input b) old new same = one_changed b (input_call next) old new (call_of_net next) same

  pub look_changes : (l : ℕ) (phase : Phase) (source : LinkSource) (old mid new : NetState) → mid.inputs ≡ old.inputs
      → new.inputs ≡ (source_sees layout meaning l phase source mid).inputs → InputsAreChanged old new
  look_changes l phase (Block s) old mid new before same = none_changed old new (same ∙ before)
  look_changes l phase (Input b) old mid new before same =
      one_changed b (Some (InputCall.look phase)) old new
      (λ made e. let call : InputCall.look phase ≡ made = cc in subst (λ (call : InputCall). is_of_net call ≡ true) call refl)
      (same ∙ ap (λ (all : List InputState). set all (input_place layout b)
      (input_after (Some (InputCall.look phase)) (get_or all (input_place layout b) no_input))) before)

  moved_changes : (by_source : Bool) (l : ℕ) (next : Move) (phase : Phase) (link : Link) (net : NetState)
      → InputsAreChanged net (moved_by layout meaning by_source l next phase link net)
  moved_changes true l next phase link net =
      source_changes l next link.source net (moved_by layout meaning true l next phase link net)
      (sight_apart l phase link.target
      (with_line l (line_after layout meaning l next phase link.source net) (source_moves layout meaning l next link.source net)))
  moved_changes false l next phase link net =
      look_changes l phase link.source net
      (with_line l (line_after layout meaning l next phase link.source net) (target_moves layout meaning l next link.target net))
      (moved_by layout meaning false l next phase link net) (target_apart l next link.target net) refl

  move_changes : (l : ℕ) (next : Move) (phase : Option Phase) (net : NetState) → InputsAreChanged net (after_move layout meaning l next phase net)
  move_changes l next None net = none_changed net net refl
  move_changes l next (Some phase) net = moved_changes (is_of_source next) l next phase (link_in layout.links l) net

  pub event_changes : (net : NetState) (event : NetEvent) → InputsAreChanged net (after layout meaning event net)
  event_changes net (NetEvent.at_link l next) = move_changes l next (phase_after (line_at net l).phase next) net
  event_changes net (NetEvent.make b) = none_changed net (after layout meaning (NetEvent.make b) net) refl
  event_changes net (NetEvent.begin b) = none_changed net (after layout meaning (NetEvent.begin b) net) refl
  event_changes net (NetEvent.end_job b ticket) = none_changed net (after layout meaning (NetEvent.end_job b ticket) net) refl
  event_changes net (NetEvent.complete b p) = none_changed net (after layout meaning (NetEvent.complete b p) net) refl
  event_changes net (NetEvent.fault b) = none_changed net (after layout meaning (NetEvent.fault b) net) refl
  event_changes net (NetEvent.finish b) = none_changed net (after layout meaning (NetEvent.finish b) net) refl

-- one call of the network, or none, leaves what its caller sees
pub seen_stays : (old new : InputState) → IsChanged old new → InputLaw old → sends_of new ≡ sends_of old
seen_stays old new changed law = ap (λ (input : InputState). sends_of input) changed.new_is ∙ by_call changed.call changed.of_net
  where
    by_call : (call : Option InputCall) → ForSome call (λ made. is_of_net made ≡ true) → sends_of (input_after call old) ≡ sends_of old
    by_call None of_net = refl
    by_call (Some call) of_net = inputs_tell.unseen old call law (of_net call refl)

-- one call of the network, or none, leaves what is posted
call_stays : (call : Option InputCall) (input : InputState) → ForSome call (λ made. is_of_net made ≡ true) → PostedStays input (input_after call input)
call_stays None input of_net = posted_is_kept.same input
call_stays (Some call) input of_net = posted_is_kept.stays input call (of_net call refl)

pub changed_stays : (old new : NetState) → InputsAreChanged old new → InputsStay old new
changed_stays old new changed = record {
  count = changed.count;
  each = λ k. let at = changed.each k in
      subst (λ (input : InputState). PostedStays (input_of old k) input) (sym at.new_is) (call_stays at.call (input_of old k) at.of_net);
}

pub all_same : (net : NetState) → InputsStay net net
all_same net = record { count = refl; each = λ k. posted_is_kept.same (input_of net k) }

pub all_further : (first mid last : NetState) → InputsStay first mid → InputsStay mid last → InputsStay first last
all_further first mid last head tail = record {
  count = tail.count ∙ head.count;
  each = λ k. posted_is_kept.further (input_of first k) (input_of mid k) (input_of last k) (head.each k) (tail.each k);
}

pub event_stays : {W : Type 0} (layout : Layout W) (meaning : ℕ → Value → Result (List Value) ℕ) (net : NetState) (event : NetEvent)
    → InputsStay net (after layout meaning event net)
event_stays layout meaning net event = changed_stays net (after layout meaning event net) (event_changes layout meaning net event)

answer_stays : {W : Type 0} (layout : Layout W) (meaning : ℕ → Value → Result (List Value) ℕ) (event : NetEvent) (old new : NetState)
    → Answers layout meaning event old new → InputsStay old new
answer_stays layout meaning event old new answer = ⊎_elim
    (λ happens. subst (InputsStay old) (sym happens.new_is) (event_stays layout meaning old event))
    (λ passed. subst (InputsStay old) (sym passed.same) (all_same old))
    answer

pub posted_lists_stay : {W : Type 0} → PostedListsStay W
posted_lists_stay layout meaning [] old new goes = subst (InputsStay old) (sym goes) (all_same old)
posted_lists_stay layout meaning (event ∷ events) old new goes =
    all_further old goes.0 new (answer_stays layout meaning event old goes.0 goes.1.0)
    (posted_lists_stay layout meaning events goes.0 new goes.1.1)

not_posted : (posted : Bool) → not posted ≡ true → posted ≡ false
not_posted true e = absurd (cc)
not_posted false e = refl

-- where no value is posted to a target that has not answered, all that is posted stays
same_traces : (old new : List InputState) → length new ≡ length old
    → ((k : ℕ) → PostedStays (get_or old k no_input) (get_or new k no_input)) → every (λ input. not (is_posted input.stage)) old ≡ true
    → map input_trace new ≡ map input_trace old
same_traces [] [] count each none = refl
same_traces [] (input ∷ rest) count each none = absurd (cc)
same_traces (input ∷ rest) [] count each none = absurd (cc)
same_traces (one ∷ olds) (other ∷ news) count each none =
    let both = and_parts (not (is_posted one.stage)) (every (λ input. not (is_posted input.stage)) olds) none in
    let first = each 0 in
    let unposted = first.unposted (not_posted (is_posted one.stage) both.0) in
    ap (λ (trace : InputTrace). trace ∷ map input_trace news)
    (ap (λ (values : List Value). record { posted = values; ending = other.ending }) unposted.0
    ∙ ap (λ how. record { posted = one.posted; ending = how }) first.same_ending)
    ∙ ap (λ (traces : List InputTrace). input_trace one ∷ traces) (same_traces olds news (cc) (λ k. each (suc k)) both.1)

pub same_where_none_posted : (old new : NetState) → InputsStay old new → none_posted old ≡ true
    → map input_trace new.inputs ≡ map input_trace old.inputs
same_where_none_posted old new stays none = same_traces old.inputs new.inputs stays.count stays.each none

pub fresh_none_posted : (traces : List InputTrace) → every (λ input. not (is_posted input.stage)) (map fresh_input traces) ≡ true
fresh_none_posted [] = refl
fresh_none_posted (trace ∷ traces) = fresh_none_posted traces
