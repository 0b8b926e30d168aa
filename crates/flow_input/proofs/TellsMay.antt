-- What is told is a call that may be made, a value is begun where none is, and its caller sees nothing else of what happens.
use Rattle.std.proofs.Common.{◌≡◌, ◌≢◌, ℕ, ◌+◌, ◌-◌, ◌<◌, ◌≤◌, ◌==◌, ltb, cond, Bool, true, false, ◌&&◌, ◌||◌, List, [], ◌∷◌, ◌++◌, length, take, drop, map, Option, Some, None, is_none, option_to_list, refl, ap, sym, ◌∙◌, subst, arith}
use Rattle.std.specs.Option.{ForSome}
use Rattle.std.proofs.lemmas.Bool.{ltb-true, ltb-false, lt-ltb, and_parts, eqb-true, eqb-false}
use Rattle.std.proofs.lemmas.List.{length-take-le, take-append-le, drop_at, drop_all}
use Rattle.flow_value.specs.declared.value.Value.{Value}
use Rattle.flow_link.specs.declared.phase.Phase.{Phase}
use Rattle.flow_link.specs.Stage.{source_looks}
use Rattle.flow_outlet.specs.Law.{is_refused}
use Rattle.flow_poll.specs.Sends.{Begins, Begun}
use Rattle.flow_poll.specs.declared.send.Sent.TheVariants as sent
use Rattle.flow_input.specs.Input.{InputState, InputCall, after_input, has_next, is_of_net, is_turned_down, is_unseen, next_value, stands_at, takes_back}
use Rattle.flow_input.specs.InputKeeps.{InputLaw, InputsTell, IsIdle, MayCallInput}
use Rattle.flow_input.specs.Sends.{begun_as, begun_of, has_id, is_crossing, is_idle, sends_of, settled, tells_refused, tells_rest, tells_waiting}
use Rattle.flow_input.proofs.InputLists.{next_of, none_is, take_twice, there}
use Rattle.flow_input.proofs.InputLooks.{down_posted, refused_home}
use Rattle.flow_input.proofs.InputsInOrder.{told_within}
use Rattle.flow_input.proofs.InputsTell.{begun_none, some_behind, some_there, well}

module _ (input : InputState) (law : InputLaw input) where
  abbrev TellMay : InputCall → Type 0
  TellMay call = (is_unseen call ≡ true) × MayCallInput call input

  abbrev MayTell : Option InputCall → Type 0
  MayTell call = ForSome call TellMay

  none_may : MayTell None
  none_may call e = absurd (cc)

  this_may : (call : InputCall) → TellMay call → MayTell (Some call)
  this_may call may made e = let same : call ≡ made = cc in subst TellMay same may

  waiting_may : (waits : Bool) → MayTell (tells_waiting waits).call
  waiting_may true = none_may
  waiting_may false = none_may

  refused_may : is_refused input.stage ≡ true → settled input ≤ input.told → (found : Option Value) → next_value input ≡ found
      → MayTell (tells_refused found).call
  refused_may refused late (Some value) is =
      let low = subst (λ (c : Bool). cond c (input.sent - 1) input.sent ≤ input.told) (refused_home input.stage refused) late in
      this_may InputCall.refuse_back (
        refl,
        record {
          refused = refused;
          all_told = omega (arith, low, told_within input law);
          there = lt-ltb input.sent (length input.posted) (there input.posted input.sent value is);
        },
      )
  refused_may refused late None is = none_may

  rest_may : (back : Option Value) → settled input ≤ input.told → (refusing : Bool) → is_refused input.stage ≡ refusing
      → MayTell (tells_rest input back).call
  rest_may (Some value) late refusing is = this_may InputCall.hand_back (refl, tt)
  rest_may None late true is =
      let P : Bool → Type 0 = λ refusing.
      MayTell (cond refusing (tells_refused (next_value input)) (tells_waiting (is_crossing input.stage || has_next input))).call in
      subst P (sym is) (refused_may is late (next_value input) refl)
  rest_may None late false is =
      let P : Bool → Type 0 = λ refusing.
      MayTell (cond refusing (tells_refused (next_value input)) (tells_waiting (is_crossing input.stage || has_next input))).call in
      subst P (sym is) (waiting_may (is_crossing input.stage || has_next input))

  due_may : (due : Bool) → ltb input.told (settled input) ≡ due
      → MayTell (cond due (record { answer = sent.Accepted; call = Some InputCall.tell }) (tells_rest input input.back)).call
  due_may true is = this_may InputCall.tell (refl, ltb-true input.told (settled input) is)
  due_may false is = rest_may input.back (let late = ltb-false input.told (settled input) is in omega (arith, late)) (is_refused input.stage) refl

  -- whether a value is begun
  idle_is : is_idle input ≡ true → IsIdle input
  idle_is e =
      let both = and_parts (input.told == length input.posted) (is_none input.back) e in
      let same = eqb-true input.told (length input.posted) both.0 in
      let low = told_within input law in
      record {
        all = omega (arith, same, low, law.within);
        all_told = omega (arith, same, low, law.within);
        none_back = none_is input.back both.1;
      }

  busy_where : (same : Bool) → (input.told == length input.posted) ≡ same → (back : Option Value) → input.back ≡ back
      → (same && is_none back) ≡ false → drop input.told input.posted ++ option_to_list back ≡ [] → ⊥
  busy_where true same None back e none = absurd (cc)
  busy_where same is (Some value) back e none = some_behind (drop input.told input.posted) value none
  busy_where false is None back e none =
      let differs = eqb-false input.told (length input.posted) in
      let low = told_within input law in
      some_there input.posted [] input.told (less is) none
    where
      less : (input.told == length input.posted) ≡ false → input.told < length input.posted
      less is = omega (arith, told_within input law, law.within, eqb-false input.told (length input.posted) is)

  busy_is : is_idle input ≡ false → (sends_of input).begun ≢ []
  busy_is e none =
      busy_where (input.told == length input.posted) refl input.back refl e (begun_none input.at_once (begun_of input) none)

-- a value that is put at the end is the one that is begun
put_begun : (input : InputState) (value : Value) → IsIdle input
    → drop input.told (input.posted ++ value ∷ []) ++ option_to_list input.back ≡ value ∷ []
put_begun input value idle =
    let one : drop input.told (input.posted ++ value ∷ []) ≡ value ∷ [] =
    drop_at input.posted (value ∷ []) input.told (omega (arith, idle.all, idle.all_told)) in
    ap (λ (vs : List Value). vs ++ option_to_list input.back) one ∙ ap (λ (back : Option Value). value ∷ option_to_list back) idle.none_back

pub none_begun : (input : InputState) → IsIdle input → begun_of input ≡ []
none_begun input idle =
    let none : drop input.told input.posted ≡ [] = drop_all input.told input.posted (omega (arith, idle.all, idle.all_told)) in
    ap (λ (vs : List Value). vs ++ option_to_list input.back) none ∙ ap option_to_list idle.none_back

put_begins : (input : InputState) (value : Value) (at_once : Bool) → IsIdle input → has_id input ≡ true
    → Begins (begun_as at_once value) (has_id input) (sends_of input) (record {
      accepted = take input.told (input.posted ++ value ∷ []);
      begun = map (begun_as at_once) (drop input.told (input.posted ++ value ∷ []) ++ option_to_list input.back);
    })
put_begins input value at_once idle id =
    let same : take input.told (input.posted ++ value ∷ []) ≡ take input.told input.posted =
    take-append-le input.told input.posted (value ∷ []) (omega (arith, idle.all, idle.all_told)) in
    let begun = map (begun_as at_once) (drop input.told (input.posted ++ value ∷ []) ++ option_to_list input.back) in
    record {
      id = id;
      free = ap (map (begun_as input.at_once)) (none_begun input idle);
      new_is = ap (λ (vs : List Value). record { accepted = vs; begun = begun }) same
          ∙ ap (λ (vs : List Value). record { accepted = take input.told input.posted; begun = map (begun_as at_once) vs })
          (put_begun input value idle);
    }

back_begins : (input : InputState) (value : Value) (at_once : Bool) → IsIdle input → has_id input ≡ true
    → Begins (begun_as at_once value) (has_id input) (sends_of input) (sends_of (after_input (InputCall.send_back value at_once) input))
back_begins input value at_once idle id =
    let none : drop input.told input.posted ≡ [] = drop_all input.told input.posted (omega (arith, idle.all, idle.all_told)) in
    record {
      id = id;
      free = ap (map (begun_as input.at_once)) (none_begun input idle);
      new_is = ap (λ (vs : List Value). record { accepted = take input.told input.posted; begun = map (begun_as at_once) (vs ++ value ∷ []) }) none;
    }

-- a value that was posted and is turned down stays begun
down_same : (input : InputState) → InputLaw input → (phase : Phase) (down : Bool) → is_turned_down input.stage phase ≡ down
    → sends_of (cond down (takes_back input) (stands_at (source_looks input.stage phase) input)) ≡ sends_of input
down_same input law phase false is = refl
down_same input law phase true is =
    let alone = law.posts (down_posted input.stage phase is) in
    let next = next_of input.posted input.sent (omega (arith, alone.last)) in
    let long = length-take-le input.sent input.posted law.within in
    let kept = take input.sent input.posted in
    let took : take input.told kept ≡ take input.told input.posted =
    ap (λ (n : ℕ). take n kept) alone.all_told ∙ take_twice input.sent input.posted
    ∙ ap (λ (n : ℕ). take n input.posted) (sym alone.all_told) in
    let front : drop input.told kept ≡ [] = drop_all input.told kept (omega (arith, long, alone.all_told)) in
    let behind : drop (input.sent + 1) input.posted ≡ [] = drop_all (input.sent + 1) input.posted (omega (arith, alone.last)) in
    let before : begun_of input ≡ next.value ∷ [] =
    ap (λ (vs : List Value). vs ++ option_to_list input.back)
    (ap (λ (n : ℕ). drop n input.posted) alone.all_told ∙ next.rest ∙ ap (λ (vs : List Value). next.value ∷ vs) behind)
    ∙ ap (λ (back : Option Value). next.value ∷ option_to_list back) alone.none_back in
    let after : drop input.told kept ++ option_to_list (next_value input) ≡ next.value ∷ [] =
    ap (λ (vs : List Value). vs ++ option_to_list (next_value input)) front ∙ ap option_to_list next.first in
    let begun : List Value → List Begun = map (begun_as input.at_once) in
    ap (λ (vs : List Value). record { accepted = vs; begun = begun (drop input.told kept ++ option_to_list (next_value input)) }) took
    ∙ ap (λ (vs : List Value). record { accepted = take input.told input.posted; begun = begun vs }) (after ∙ sym before)

unseen : (input : InputState) (call : InputCall) → InputLaw input → is_of_net call ≡ true
    → sends_of (after_input call input) ≡ sends_of input
unseen input InputCall.offer law e = refl
unseen input InputCall.give law e = refl
unseen input (InputCall.end_link how) law e = refl
unseen input (InputCall.look phase) law e = down_same input law phase (is_turned_down input.stage phase) refl
unseen input _ law e = absurd (cc)

pub inputs_tell : InputsTell
inputs_tell = record {
  unseen = unseen;
  tells = λ input law. well input law;
  may = λ input law. due_may input law (ltb input.told (settled input)) refl;
  posts = λ input value idle id. put_begins input value true idle id;
  begins = λ input value idle id. put_begins input value false idle id;
  sends_back = back_begins;
  idle = λ input law e. idle_is input law e;
  busy = λ input law e. busy_is input law e;
}
