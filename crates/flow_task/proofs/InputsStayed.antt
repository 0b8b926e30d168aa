-- What is posted to the inputs of a scattered network stays.
use Rattle.std.proofs.Common.{◌≡◌, ℕ, zero, suc, ◌<◌, ◌≤◌, Bool, true, false, List, length, get_or, None, Result, Ok, Err, IfOk, OnErr, refl, sym, ap, ap₂, ◌∙◌, subst, arith, ⊎_elim}
use Rattle.std.specs.Coded.{codes}
use Rattle.std.proofs.Math.Logic.{∥∥₁_elim, ∥∥₁_map}
use Rattle.std.proofs.lemmas.Bool.{cases_lt}
use Rattle.std.proofs.lemmas.List.{get_or_default, get_or_past, length-map}
use Rattle.std.proofs.Math.Bool.{Bool-set}
use Rattle.std.proofs.Math.ListN.{get_or-map}
use Rattle.flow_value.specs.contracts.value.Value as content
use Rattle.flow_value.specs.declared.value.Value.{Value}
use Rattle.flow_link.specs.declared.phase.Move.{Move}
use Rattle.flow_link.specs.declared.phase.Move.TheVariants as move
use Rattle.flow_link.specs.declared.trace.Ending.{Ending}
use Rattle.flow_link.specs.declared.trace.Ending.TheVariants as ending
use Rattle.flow_link.specs.Planned.{layout_of}
use Rattle.flow_outlet.specs.Law.{is_posted}
use Rattle.flow_core.specs.Events.{input_after, input_call}
use Rattle.flow_core.specs.Inputs.{InputsStay, input_of}
use Rattle.flow_core.specs.State.{NetState}
use Rattle.flow_input.specs.Input.{InputState, InputCall, end_by, no_input}
use Rattle.flow_input.specs.InputKeeps.{InputLaw, PostedStays}
use Rattle.flow_input.proofs.PostedKept.{posted_is_kept}
use Rattle.flow_poll.specs.declared.actor.Turned.{Turned}
use Rattle.flow_task.specs.Begun.{ClosedInputsStay, begun_in}
use Rattle.flow_task.specs.Events.{HasLooked, InputHappens, InputLooks, LooksBy, TurnsBy}
use Rattle.flow_task.specs.Inputs.{OpenOnesPost, is_open_ending, stays_open}
use Rattle.flow_task.specs.Entries.{with_parcel}
use Rattle.flow_task.specs.Numbers.{is_open}
use Rattle.flow_task.specs.Untouched.{passed}
use Rattle.flow_task.specs.declared.board.Board.{Board}

-- One proof

posted_prop : (old new : InputState) → IsProp (PostedStays old new)
posted_prop old new = Prim.hlevel (codes, content.the_row.coded)

-- One input

moved : (next : Move) (input : InputState) → PostedStays input (input_after (input_call next) input)
moved (move.Offer i) input = posted_is_kept.stays input InputCall.offer refl
moved move.Give input = posted_is_kept.stays input InputCall.give refl
moved (move.End how) input = posted_is_kept.stays input (InputCall.end_link how) refl
moved _ input = posted_is_kept.same input

looks_stay : (n : ℕ) (old new : InputState) → LooksBy InputLooks n old new → PostedStays old new
looks_stay zero old new same = subst (PostedStays old) (sym same) (posted_is_kept.same old)
looks_stay (suc n) old new (mid, (before, look)) =
    posted_is_kept.further old mid new (looks_stay n old mid before)
    (subst (PostedStays mid) (sym look.leaves) (posted_is_kept.stays mid (InputCall.look look.phase) refl))

pub looked_stays : (old new : InputState) → HasLooked InputLooks old new → PostedStays old new
looked_stays old new looked = looks_stay looked.0 old new looked.1

turned_stays : (n : ℕ) (old new : InputState) → TurnsBy InputLooks InputHappens n old new → PostedStays old new
turned_stays zero old new looked = looked_stays old new looked
turned_stays (suc n) old new (mid, (before, (next, (event, looked)))) =
    posted_is_kept.further old mid new (turned_stays n old mid before)
    (posted_is_kept.further mid next new
    (subst (PostedStays mid) (sym event.leaves) (moved event.next mid))
    (looked_stays next new looked))

-- a turn leaves what was posted when it began
pub stays_turned : (n : ℕ) (begun old new : InputState) → PostedStays begun old → ∥ TurnsBy InputLooks InputHappens n old new ∥₁
    → ∥ PostedStays begun new ∥₁
stays_turned n begun old new before turned =
    ∥∥₁_map turned (λ t. posted_is_kept.further begun old new before (turned_stays n old new t))

-- whatever came of the turn
pub stays_done : {E : Type 0} (result : Result Turned E) (begun old new : InputState) → PostedStays begun old
    → IfOk result (λ turned. ∥ TurnsBy InputLooks InputHappens turned.events old new ∥₁) → OnErr result (∥ HasLooked InputLooks old new ∥₁)
    → ∥ PostedStays begun new ∥₁
stays_done (Ok turned) begun old new before happens looked = stays_turned turned.events begun old new before happens
stays_done (Err fault) begun old new before happens looked = stays_turned 0 begun old new before looked

-- an input is as it was, but for what is told of it and the parcel of its next value
pub untouched_stays : (old new : InputState) → with_parcel new ≡ with_parcel (passed old) → PostedStays old new
untouched_stays old new same =
    let here = posted_is_kept.same old in
    let there = subst (PostedStays old) (sym same) (record {
      same_ending = here.same_ending;
      more = here.more;
      front = here.front;
      given = here.given;
      unposted = here.unposted;
    }) in
    record {
      same_ending = there.same_ending;
      more = there.more;
      front = there.front;
      given = there.given;
      unposted = there.unposted;
    }

-- Those that are no entries

is_false : (b : Bool) → (b ≡ true → ⊥) → b ≡ false
is_false true never = absurd (never refl)
is_false false never = refl

never_open : (how : Ending) → is_open_ending how ≡ false → end_by how ≡ None → ⊥
never_open ending.Open closed none = absurd (cc)
never_open ending.Complete closed none = absurd (cc)
never_open (ending.Fault number) closed none = absurd (cc)

pub none_posts : (net : NetState) (n : ℕ) → length net.inputs ≡ n → ((q : ℕ) → q < n → ∥ InputLaw (input_of net q) ∥₁) → OpenOnesPost net
none_posts net n count laws q closed =
    ⊎_elim (λ (low : q < n).
    ∥∥₁_elim (laws q low) (Bool-set _ _) (λ law.
    is_false (is_posted (input_of net q).stage) (λ posted. never_open (input_of net q).ending closed (law.posts posted).stays_open)))
    (λ (high : n ≤ q).
    let past = get_or_past net.inputs q no_input (omega (arith, count, high)) in
    let opened : stays_open (input_of net q) ≡ true = ap stays_open past in
    absurd (cc))
    (cases_lt q n)

module _ {W : Type 0} (board : Board W) where
  -- an entry was open when it was scattered, and what is no entry was not
  pub opens_tell : (q : ℕ) → q < length board.opens.items
      → stays_open (input_of (begun_in board) q) ≡ is_open (layout_of board.rest.plan) board.opens.items q
  opens_tell q there =
      let inputs = board.begun.value.inputs.items in
      sym (get_or-map stays_open inputs q no_input)
      ∙ ap (λ (opens : List Bool). get_or opens q true) (sym board.opens_are)
      ∙ get_or_default board.opens.items q true false there

  pub closed_stay : (net : NetState)
      → ((q : ℕ) → q < length board.opens.items → is_open (layout_of board.rest.plan) board.opens.items q ≡ false
      → ∥ PostedStays (input_of (begun_in board) q) (input_of net q) ∥₁) → ClosedInputsStay board net
  closed_stay net stay q there closed =
      let one = ∥∥₁_elim (stay q there closed) (posted_prop (input_of (begun_in board) q) (input_of net q)) (λ s. s) in
      let same = (one.unposted (board.open_ones_post q (opens_tell q there ∙ closed))).0 in
      ap₂ (λ (posted : List Value) (how : Ending). record { posted = posted; ending = how }) same one.same_ending

  -- where each stays, all do
  pub all_stay : (net : NetState) → length net.inputs ≡ length board.opens.items
      → ((q : ℕ) → q < length board.opens.items → ∥ PostedStays (input_of (begun_in board) q) (input_of net q) ∥₁)
      → InputsStay (begun_in board) net
  all_stay net count stay =
      let inputs = board.begun.value.inputs.items in
      let begun = ap length board.opens_are ∙ length-map inputs stays_open in
      record {
        count = count ∙ begun;
        each = λ q.
            ⊎_elim
            (λ (low : q < length board.opens.items).
            ∥∥₁_elim (stay q low) (posted_prop (input_of (begun_in board) q) (input_of net q)) (λ s. s))
            (λ (high : length board.opens.items ≤ q).
            let old = get_or_past inputs q no_input (omega (arith, begun, high)) in
            let new = get_or_past net.inputs q no_input (omega (arith, count, high)) in
            subst (λ (input : InputState). PostedStays input (input_of net q)) (sym old)
            (subst (PostedStays no_input) (sym new) (posted_is_kept.same no_input)))
            (cases_lt q (length board.opens.items));
      }
