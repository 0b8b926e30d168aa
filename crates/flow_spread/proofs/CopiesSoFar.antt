-- What a link of a spread has had of its elements, as its end moves, is given one, and a new one is put.
use Rattle.std.proofs.Common.{◌≡◌, ℕ, ◌+◌, ◌-◌, ◌<◌, ◌≤◌, ◌&&◌, ◌||◌, not, cond, Bool, true, false, List, [], ◌∷◌, ◌++◌, length, Option, Some, None, is_some, refl, sym, ◌∙◌, ap, subst, inl, inr, arith, ◌⊎◌}
use Rattle.std.specs.Option.{ForSome}
use Rattle.std.proofs.lemmas.Bool.{cases_eq, OnTrue_at}
use Rattle.std.proofs.lemmas.List.{append-nil, length-append, get_or-set_same, get_or-set_other}
use Rattle.flow_value.specs.When.{admits}
use Rattle.flow_value.specs.declared.value.Value.{Value}
use Rattle.flow_link.specs.declared.stage.SourceStage.{SourceStage}
use Rattle.flow_link.specs.declared.stage.SourceStage.TheVariants.{Waiting, AskedBy, Crossing, Refused}
use Rattle.flow_link.specs.declared.trace.Outcome.{Outcome}
use Rattle.flow_link.specs.LinkOk.{HasRoom}
use Rattle.flow_outlet.specs.ByLink.{forgotten_stage}
use Rattle.flow_outlet.specs.Outlet.{first_of}
use Rattle.flow_outlet.specs.End.{is_out, is_over, is_cut, counted}
use Rattle.flow_outlet.specs.History.{listed}
use Rattle.flow_outlet.specs.Law.{is_put_off, is_refused, admits_head}
use Rattle.flow_outlet.specs.declared.ends.LinkRule.{LinkRule}
use Rattle.flow_spread.specs.declared.end.CopyEnd.{CopyEnd}
use Rattle.flow_spread.specs.Copied.{IsPartOf, IsFrontOf, carried}
use Rattle.flow_spread.specs.End.{no_end, is_answer, takes_up}
use Rattle.flow_spread.specs.Law.{CopyEndLaw, MayPutOff, speaks, concerns_it}
use Rattle.flow_spread.specs.Spread.{SpreadState, end_at, changes}
use Rattle.flow_spread.proofs.CarriedValues.{part_with, part_without, carried_skips, carried_cut, carried_adds, front_more, front_same, first_dropped, first_is, first_cut, first_more}
use Rattle.flow_spread.proofs.EndsOwe.{ended_cut}
use Rattle.flow_spread.proofs.StagesTell.{or_either, or_first, never_so}

-- what a link was given so far, where this is the newest element, and those are the older ones
pub record HadSoFar (older given : List Value) (element : Option Value) (id : ℕ) (rule : LinkRule) (count last : ℕ) (stage : SourceStage) (owes : Bool) : Type 0 where
  pub part : IsPartOf given (older ++ listed element)
  pub before : last < id → IsPartOf given older
  pub counted : ForSome rule.max (λ _. count ≡ length given)
  pub all : rule.steady ≡ true → is_refused stage ≡ false → given ≡ carried rule (older ++ cond owes [] (listed element))
  pub front : rule.steady ≡ true → IsFrontOf given (carried rule (older ++ listed element))
  pub some : 1 ≤ last → is_some (first_of given) ≡ true
  pub first : rule.sole ≡ true → is_refused stage ≡ false
      → first_of given ≡ first_of (carried rule (older ++ cond owes [] (listed element)))
  pub begun : rule.sole ≡ true → is_some (first_of given) ≡ true
      → first_of given ≡ first_of (carried rule (older ++ listed element))

abbrev pub HadBy : List Value → List Value → Option Value → ℕ → CopyEnd → Type 0
HadBy older given element id end =
    HadSoFar older given element id end.link.rule end.link.given end.link.last end.link.stage end.owes

-- what a link owes stays, or it was given something before
abbrev pub OwesOrHad : ℕ → Bool → Bool → Type 0
OwesOrHad last owes owes' = (owes' ≡ owes) ⊎ ((owes' ≡ false) × (1 ≤ last))

-- nothing was given, and what a steady link owes stays
pub moved_had : {older given : List Value} {element : Option Value} {id : ℕ} {rule : LinkRule} {count last : ℕ} {stage : SourceStage} {owes : Bool}
    → HadSoFar older given element id rule count last stage owes → (stage' : SourceStage) (owes' : Bool)
    → (rule.steady ≡ true → is_refused stage' ≡ false → (is_refused stage ≡ false) × (owes' ≡ owes))
    → (rule.sole ≡ true → is_refused stage' ≡ false → (is_refused stage ≡ false) × OwesOrHad last owes owes')
    → HadSoFar older given element id rule count last stage' owes'
moved_had {older} {given} {element} {rule = rule} {owes = owes} had stage' owes' same alone = record {
  part = had.part;
  before = had.before;
  counted = had.counted;
  all = λ steady taking. let is = same steady taking in rw is.1 (had.all steady is.0);
  front = had.front;
  some = had.some;
  first = λ sole taking.
      let is = alone sole taking in
      let was = had.first sole is.0 in
      elim (is.1) [
        | inl stays ↦ rw stays was
        | inr late ↦ rw (late.0) (first_dropped rule older given (listed element) owes was (had.some late.1))
      ];
  begun = had.begun;
}

-- the end at a place, where one end changes
pub at_change : (P : CopyEnd → Type 0) (s : SpreadState) (j k : ℕ) (end : CopyEnd) → j < length s.ends
    → P (end_at s k) → (k ≡ j → P end) → P (end_at (changes j end s) k)
at_change P s j k end here elsewhere at_j = elim (cases_eq k j) [
  | inl same ↦ rw (same, get_or-set_same s.ends j end no_end here) (at_j same)
  | inr other ↦ rw (get_or-set_other s.ends j k end no_end other) elsewhere
]

-- A look

pub not_back : (a b : Bool) → (a ≡ true → b ≡ true) → b ≡ false → a ≡ false
not_back true b f e = let so : b ≡ true = f refl in cc
not_back false b f e = refl

pub answers_off : (once : Bool) (stage : SourceStage) → is_refused stage ≡ false → is_put_off stage ≡ false → is_answer once stage ≡ false
answers_off once Refused r o = cc
answers_off once (Waiting _) r o = cc
answers_off once (AskedBy _) r o = cc
answers_off once stage r o = refl

pub owes_same : (owes answers : Bool) → answers ≡ false → (owes && not answers) ≡ owes
owes_same true false e = refl
owes_same false answers e = refl
owes_same true true e = cc

pub answers_put_off : (once : Bool) (stage : SourceStage) → is_refused stage ≡ false → is_answer once stage ≡ true → is_put_off stage ≡ true
answers_put_off once Refused r a = cc
answers_put_off once (Waiting _) r a = refl
answers_put_off once (AskedBy _) r a = refl
answers_put_off once stage r a = cc

pub owes_or_late : {last : ℕ} (owes answers : Bool) → (answers ≡ true → 1 ≤ last) → OwesOrHad last owes (owes && not answers)
owes_or_late true false late = inl refl
owes_or_late false answers late = inl refl
owes_or_late true true late = inr (refl, late refl)

pub once_or_late : {last : ℕ} (owes once : Bool) → 1 ≤ last → OwesOrHad last owes (owes && once)
once_or_late true true late = inl refl
once_or_late false once late = inl refl
once_or_late true false late = inr (refl, late)

-- What is given

pub is_kept : (rule : LinkRule) (value : Value) (element : Option Value) → element ≡ Some value → admits_head rule.when element ≡ true
    → admits rule.when value ≡ true
is_kept rule value None is e = cc
is_kept rule value (Some v) is e = let same : v ≡ value = cc in subst (λ (w : Value). admits rule.when w ≡ true) same e

one_counted : (max : Option ℕ) (count : ℕ) (given : List Value) (value : Value) → ForSome max (λ _. count ≡ length given)
    → ForSome max (λ _. counted max count ≡ length (given ++ value ∷ []))
one_counted None count given value e = λ m is. cc
one_counted (Some max) count given value e = λ m is.
    let before : count ≡ length given = e max refl in
    omega (arith, length-append given (value ∷ []))

some_more : (given : List Value) (value : Value) → is_some (first_of (given ++ value ∷ [])) ≡ true
some_more [] value = refl
some_more (v ∷ given) value = refl

first_given : (rule : LinkRule) (count : ℕ) (older given : List Value) (value : Value) (owes : Bool) → admits rule.when value ≡ true
    → HasRoom rule.max count → first_of given ≡ first_of (carried rule (older ++ cond owes [] (value ∷ [])))
    → (first_of given ≡ None → owes ≡ true)
    → first_of (given ++ value ∷ []) ≡ first_of (carried rule (older ++ value ∷ []))
first_given rule count older (v ∷ given) value owes admitted room e late = first_dropped rule older (v ∷ given) (value ∷ []) owes e refl
first_given rule count older [] value true admitted room e late =
    sym (first_is rule count older value admitted room (sym (e ∙ ap (λ (vs : List Value). first_of (carried rule vs)) (append-nil older))))
first_given rule count older [] value false admitted room e late = let no : false ≡ true = late refl in cc

pub given_had : {older given : List Value} {element : Option Value} {id : ℕ} {once pending : Bool} {stopped : Option Outcome} (end : CopyEnd) (value : Value)
    → element ≡ Some value → CopyEndLaw element id once pending stopped end → speaks end.link.stage ≡ true
    → (is_out end.link.stage || is_put_off end.link.stage) ≡ true → is_refused end.link.stage ≡ false
    → HadBy older given element id end
    → HadSoFar older (given ++ value ∷ []) (Some value) id end.link.rule (counted end.link.rule.max end.link.given) id Crossing false
given_had {older} {given} {element} {id} end value is law spoken out_or_off taking had =
    let mine : HadBy older given (Some value) id end = subst (λ (el : Option Value). HadBy older given el id end) is had in
    let rule = end.link.rule in
    let concerned : concerns_it end ≡ true = or_first (speaks end.link.stage) end.owes spoken in
    let admitted : admits rule.when value ≡ true = is_kept rule value element is (OnTrue_at concerned law.admitted) in
    let room = OnTrue_at concerned law.room in
    let all = λ (steady : rule.steady ≡ true).
    let owes : end.owes ≡ true = or_either (is_out end.link.stage) (is_put_off end.link.stage)
    (λ out. OnTrue_at out law.owed)
    (λ off. let well : MayPutOff end.link = OnTrue_at off law.put_off in never_so rule.steady steady well.unsteady)
    out_or_off in
    let was : given ≡ carried rule (older ++ []) = rw owes at (had.all steady taking) in
    let before : given ≡ carried rule older = was ∙ ap (carried rule) (append-nil older) in
    let counts : ForSome rule.max (λ _. end.link.given ≡ length (carried rule older)) = λ m e. had.counted m e ∙ ap length before in
    let adds : carried rule (older ++ value ∷ []) ≡ carried rule older ++ value ∷ [] = carried_adds rule end.link.given older value admitted room counts in
    let here : given ++ value ∷ [] ≡ carried rule (older ++ value ∷ []) = ap (λ (vs : List Value). vs ++ value ∷ []) before ∙ sym adds in
    here in
    let first_so = λ (sole : rule.sole ≡ true).
    let so : first_of (given ++ value ∷ []) ≡ first_of (carried rule (older ++ value ∷ [])) =
    first_given rule end.link.given older given value end.owes admitted room (mine.first sole taking)
    (λ none. or_either (is_out end.link.stage) (is_put_off end.link.stage)
    (λ out. OnTrue_at out law.owed)
    (λ off.
    let well : MayPutOff end.link = OnTrue_at off law.put_off in
    let given_before : is_some (first_of given) ≡ true = had.some (well.late sole) in
    never_so (is_some (first_of given)) given_before (ap is_some none))
    out_or_off) in
    so in
    record {
      part = part_with value (had.before (OnTrue_at concerned law.fresh));
      before = λ l. absurd (omega (arith, l));
      counted = one_counted rule.max end.link.given given value had.counted;
      all = λ steady _. all steady;
      front = λ steady. front_same _ _ (all steady);
      some = λ _. some_more given value;
      first = λ sole _. first_so sole;
      begun = λ sole _. first_so sole;
    }

-- A new element

pub closed_or_turned_away : (over cut admitted : Bool) → (not (over || cut) && admitted) ≡ false → (over ≡ true → cut ≡ true)
    → (cut || not admitted) ≡ true
closed_or_turned_away over true admitted e f = refl
closed_or_turned_away over false false e f = refl
closed_or_turned_away false false true e f = cc
closed_or_turned_away true false true e f = let no : false ≡ true = f refl in cc

pub not_is : (b : Bool) → not b ≡ true → b ≡ false
not_is true e = cc
not_is false e = refl

refused_before : (stage : SourceStage) → is_refused (forgotten_stage stage) ≡ false → is_refused stage ≡ false
refused_before Refused e = cc
refused_before (Waiting _) e = refl
refused_before stage e = e

pub over_before : (stage : SourceStage) → is_over (forgotten_stage stage) ≡ true → forgotten_stage stage ≡ stage
over_before (Waiting _) e = cc
over_before stage e = refl

put_all : (rule : LinkRule) (count : ℕ) (given all : List Value) (value : Value) (due : Bool) → given ≡ carried rule all
    → ForSome rule.max (λ _. count ≡ length given)
    → (due ≡ false → carried rule (all ++ value ∷ []) ≡ carried rule all)
    → given ≡ carried rule (all ++ cond due [] (value ∷ []))
put_all rule count given all value true e counts f = e ∙ ap (carried rule) (sym (append-nil all))
put_all rule count given all value false e counts f = e ∙ sym (f refl)

put_first : (rule : LinkRule) (given all : List Value) (value : Value) (due : Bool) → first_of given ≡ first_of (carried rule all)
    → (due ≡ false → first_of given ≡ first_of (carried rule (all ++ value ∷ [])))
    → first_of given ≡ first_of (carried rule (all ++ cond due [] (value ∷ [])))
put_first rule given all value true e f = e ∙ ap (λ (vs : List Value). first_of (carried rule vs)) (sym (append-nil all))
put_first rule given all value false e f = f refl

pub put_had : {older given : List Value} {element : Option Value} {id : ℕ} {once pending : Bool} (end : CopyEnd) (value : Value)
    → CopyEndLaw element id once pending None end → end.owes ≡ false → HadBy older given element id end
    → HadBy (older ++ listed element) given (Some value) (id + 1) (takes_up value end)
put_had {older} {given} {element} {id} end value law owes had =
    let rule = end.link.rule in
    let all = older ++ listed element in
    let stage = forgotten_stage end.link.stage in
    record {
      part = part_without value had.part;
      before = λ _. had.part;
      counted = had.counted;
      all = λ steady taking.
          let before : given ≡ carried rule all = rw owes at (had.all steady (refused_before end.link.stage taking)) in
          let counts : ForSome rule.max (λ _. end.link.given ≡ length (carried rule all)) = λ m e. had.counted m e ∙ ap length before in
          put_all rule end.link.given given all value (takes_up value end).owes before had.counted
          (λ none. or_either (is_cut end.link) (not (admits rule.when value))
          (λ cut. carried_cut rule end.link.given all value cut counts)
          (λ away. carried_skips rule all value (not_is (admits rule.when value) away))
          (closed_or_turned_away (is_over stage) (is_cut end.link) (admits rule.when value) none
          (λ over. ended_cut end.link law.ended stage (over_before end.link.stage over) over taking)));
      front = λ steady. front_more rule given all (value ∷ []) (had.front steady);
      some = had.some;
      first = λ sole taking.
          let before : first_of given ≡ first_of (carried rule all) = rw owes at (had.first sole (refused_before end.link.stage taking)) in
          put_first rule given all value (takes_up value end).owes before
          (λ none. or_either (is_cut end.link) (not (admits rule.when value))
          (λ cut. first_cut rule end.link.given given all (value ∷ []) cut had.counted before)
          (λ away. before ∙ ap first_of (sym (carried_skips rule all value (not_is (admits rule.when value) away))))
          (closed_or_turned_away (is_over stage) (is_cut end.link) (admits rule.when value) none
          (λ over. ended_cut end.link law.ended stage (over_before end.link.stage over) over taking)));
      begun = λ sole some.
          let was : first_of given ≡ first_of (carried rule all) = had.begun sole some in
          was ∙ sym (first_more rule all (value ∷ []) (sym (ap is_some was) ∙ some));
    }
