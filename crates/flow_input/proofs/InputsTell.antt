-- An input tells its caller what became of each value.
use Rattle.std.proofs.Common.{◌≡◌, ℕ, ◌+◌, ◌-◌, ◌<◌, ◌≤◌, ltb, cond, Bool, true, false, ◌||◌, List, [], ◌∷◌, ◌++◌, length, take, drop, map, Option, Some, None, is_some, option_to_list, refl, ap, sym, ◌∙◌, subst, arith}
use Rattle.std.proofs.lemmas.Bool.{ltb-true, ltb-false}
use Rattle.std.proofs.lemmas.List.{length-take-le, take_at, drop_at, drop_all, append-nil}
use Rattle.flow_value.specs.declared.value.Value.{Value}
use Rattle.flow_outlet.specs.Law.{is_refused}
use Rattle.flow_poll.specs.Sends.{AcceptsFirst, Begun, Tells}
use Rattle.flow_poll.specs.declared.send.Sent.TheVariants as sent
use Rattle.flow_input.specs.Input.{InputState, InputCall, after_input, has_next, next_value}
use Rattle.flow_input.specs.InputKeeps.{InputLaw}
use Rattle.flow_input.specs.Sends.{Told, after_told, begun_as, begun_of, is_crossing, sends_of, settled, takes_more, told_next, tells_back, tells_refused, tells_rest, tells_waiting}
use Rattle.flow_input.proofs.InputLists.{next_of, nothing_left, there}
use Rattle.flow_input.proofs.InputLooks.{refused_home, settled_within}
use Rattle.flow_input.proofs.InputsInOrder.{told_within}

-- a value that is there is not nothing
pub some_there : (values rest : List Value) (n : ℕ) → n < length values → drop n values ++ rest ≡ [] → ⊥
some_there values rest n small none =
    let next = next_of values n small in
    let both : next.value ∷ drop (n + 1) values ++ rest ≡ [] = sym (ap (λ (vs : List Value). vs ++ rest) next.rest) ∙ none in
    cc

pub some_behind : (values : List Value) (value : Value) → values ++ value ∷ [] ≡ [] → ⊥
some_behind [] value e = cc
some_behind (v ∷ vs) value e = cc

pub begun_none : (at_once : Bool) (values : List Value) → map (begun_as at_once) values ≡ [] → values ≡ []
begun_none at_once [] e = refl
begun_none at_once (v ∷ vs) e = absurd (cc)

module _ (input : InputState) (law : InputLaw input) where
  abbrev begun_all : List Value → List Begun
  begun_all values = map (begun_as input.at_once) values

  -- it tells so, and this is its call
  abbrev Well : Told → Type 0
  Well told = Tells told.answer (sends_of input) (sends_of (after_told told.call input))

  accepted : input.told < settled input → Well (record { answer = sent.Accepted; call = Some InputCall.tell })
  accepted due =
      let within = settled_within (is_crossing input.stage) input.sent in
      let next = next_of input.posted input.told (omega (arith, due, within, law.within)) in
      let P : List Value → Type 0 = λ vs.
      AcceptsFirst (begun_all (vs ++ option_to_list input.back)) (take input.told input.posted) (sends_of (after_input InputCall.tell input)) in
      let new : sends_of (after_input InputCall.tell input) ≡ record {
        accepted = take input.told input.posted ++ next.value ∷ [];
        begun = begun_all (drop (input.told + 1) input.posted ++ option_to_list input.back);
      } = ap (λ (vs : List Value). record { accepted = vs; begun = begun_all (drop (input.told + 1) input.posted ++ option_to_list input.back) }) next.more in
      subst P (sym next.rest) new

  nothing_more : input.back ≡ None → drop input.told input.posted ≡ [] → Well (record { answer = sent.Idle; call = None })
  nothing_more none left = (ap begun_all (ap (λ (vs : List Value). vs ++ option_to_list input.back) left ∙ ap option_to_list none), refl)

  waits : input.told < length input.posted → Well (record { answer = sent.Waiting; call = None })
  waits small =
      (λ e. some_there input.posted (option_to_list input.back) input.told small (begun_none input.at_once (begun_of input) e), refl)

  -- all that was taken is told
  module _ (late : settled input ≤ input.told) where
    home_told : is_crossing input.stage ≡ false → input.told ≡ input.sent
    home_told home =
        let low = subst (λ (c : Bool). cond c (input.sent - 1) input.sent ≤ input.told) home late in
        omega (arith, low, told_within input law)

    module _ (value : Value) (is : input.back ≡ Some value) where
      low : (length input.posted ≡ input.sent) × (input.told ≡ input.sent)
      low = let back = law.back (ap is_some is) in (back.all, back.all_told)

      left : drop input.told input.posted ≡ []
      left = drop_all input.told input.posted (omega (arith, low.0, low.1))

      before : begun_of input ≡ value ∷ []
      before = ap (λ (vs : List Value). vs ++ option_to_list input.back) left ∙ ap option_to_list is

      after : sends_of (after_input InputCall.hand_back input) ≡ record { accepted = take input.told input.posted; begun = [] }
      after = ap (λ (vs : List Value). record { accepted = take input.told input.posted; begun = begun_all vs })
          (append-nil (drop input.told input.posted) ∙ left)

      goes_back : (more : Bool) → takes_more input ≡ more → Well (tells_back more value)
      goes_back true so =
          let at_once = (law.back (ap is_some is)).turned_down so in
          let P : List Value → Type 0 = λ vs. Tells (sent.Declined value)
          (record { accepted = take input.told input.posted; begun = begun_all vs }) (sends_of (after_input InputCall.hand_back input)) in
          let first : begun_as input.at_once value ≡ record { value = value; may_postpone = false } =
          ap (λ (b : Bool). begun_as b value) at_once in
          subst P (sym before) (first, after)
      goes_back false so =
          let P : List Value → Type 0 = λ vs. Tells (sent.Permanently value)
          (record { accepted = take input.told input.posted; begun = begun_all vs }) (sends_of (after_input InputCall.hand_back input)) in
          subst P (sym before) (refl, after)

    refused : is_crossing input.stage ≡ false → (value : Value) → next_value input ≡ Some value
        → Well (record { answer = sent.Permanently value; call = Some InputCall.refuse_back })
    refused home value is =
        let all_told = home_told home in
        let small = there input.posted input.sent value is in
        let next = next_of input.posted input.sent small in
        let same : next.value ≡ value = let both = sym next.first ∙ is in cc in
        let front = take input.sent input.posted in
        let rest = drop (input.sent + 1) input.posted in
        let long = length-take-le input.sent input.posted law.within in
        let begun : drop input.told input.posted ≡ value ∷ rest =
        ap (λ (n : ℕ). drop n input.posted) all_told ∙ next.rest ∙ ap (λ (v : Value). v ∷ rest) same in
        let then : drop input.told (front ++ rest) ≡ rest =
        ap (λ (n : ℕ). drop n (front ++ rest)) all_told ∙ drop_at front rest input.sent long in
        let took : take input.told (front ++ rest) ≡ take input.told input.posted =
        ap (λ (n : ℕ). take n (front ++ rest)) all_told ∙ take_at front rest input.sent long
        ∙ ap (λ (n : ℕ). take n input.posted) (sym all_told) in
        let P : List Value → Type 0 = λ vs. Tells (sent.Permanently value)
        (record { accepted = take input.told input.posted; begun = begun_all (vs ++ option_to_list input.back) })
        (sends_of (after_input InputCall.refuse_back input)) in
        let new : sends_of (after_input InputCall.refuse_back input)
        ≡ record { accepted = take input.told input.posted; begun = begun_all (rest ++ option_to_list input.back) } =
        ap (λ (vs : List Value). record { accepted = vs; begun = begun_all (drop input.told (front ++ rest) ++ option_to_list input.back) }) took
        ∙ ap (λ (vs : List Value). record { accepted = take input.told input.posted; begun = begun_all (vs ++ option_to_list input.back) }) then in
        subst P (sym begun) (refl, new)

    at_refused : input.back ≡ None → is_crossing input.stage ≡ false → (found : Option Value) → next_value input ≡ found
        → Well (tells_refused found)
    at_refused none home (Some value) is = refused home value is
    at_refused none home None is =
        nothing_more none (ap (λ (n : ℕ). drop n input.posted) (home_told home) ∙ nothing_left (drop input.sent input.posted) is)

    on_the_way : input.back ≡ None → (crossing more : Bool) → is_crossing input.stage ≡ crossing → has_next input ≡ more
        → Well (tells_waiting (crossing || more))
    on_the_way none true more crosses is =
        let low = subst (λ (c : Bool). input.told ≤ cond c (input.sent - 1) input.sent) crosses law.told in
        waits (omega (arith, law.crossing crosses, law.within, low))
    on_the_way none false true crosses is =
        waits (omega (arith, home_told crosses, ltb-true input.sent (length input.posted) is))
    on_the_way none false false crosses is =
        nothing_more none (drop_all input.told input.posted (omega (arith, home_told crosses, ltb-false input.sent (length input.posted) is)))

    on_refusal : input.back ≡ None → (refusing : Bool) → is_refused input.stage ≡ refusing
        → Well (cond refusing (tells_refused (next_value input)) (tells_waiting (is_crossing input.stage || has_next input)))
    on_refusal none true is = at_refused none (refused_home input.stage is) (next_value input) refl
    on_refusal none false is = on_the_way none (is_crossing input.stage) (has_next input) refl refl

    on_return : (back : Option Value) → input.back ≡ back → Well (tells_rest input back)
    on_return (Some value) is = goes_back value is (takes_more input) refl
    on_return None is = on_refusal is (is_refused input.stage) refl

  on_due : (due : Bool) → ltb input.told (settled input) ≡ due
      → Well (cond due (record { answer = sent.Accepted; call = Some InputCall.tell }) (tells_rest input input.back))
  on_due true is = accepted (ltb-true input.told (settled input) is)
  on_due false is = on_return (let late = ltb-false input.told (settled input) is in omega (arith, late)) input.back refl

  pub well : Well (told_next input)
  well = on_due (ltb input.told (settled input)) refl
