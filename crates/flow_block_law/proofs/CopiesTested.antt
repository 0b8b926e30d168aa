-- The tests by which a law of copies is decided, over plain lists: they pass where the lists are parts, fronts, and the same.
use Rattle.std.proofs.Common.{◌≡◌, ℕ, ◌-◌, ◌≤◌, cond, Bool, true, false, not, ◌&&◌, ◌||◌, List, [], ◌∷◌, ◌++◌, length, take, drop, Option, Some, None, is_some, refl, ap, sym, subst, ◌∙◌, arith, append-nil}
use Rattle.std.proofs.lemmas.Bool.{and_from, or_left, or_right}
use Rattle.std.proofs.lemmas.List.{length-append}
use Rattle.std.proofs.Math.Seq.{drop-append_seam}
use Rattle.flow_value.specs.Same.{same_value}
use Rattle.flow_value.specs.declared.value.Value.{Value}
use Rattle.flow_link.specs.Lists.{is_empty, is_front, is_subsequence, same_values, without_last}
use Rattle.flow_link.proofs.ListTests.{never_both, same_value_refl, same_values_where, front_append, front_refl, front_without}
use Rattle.flow_outlet.specs.declared.ends.LinkRule.{LinkRule}
use Rattle.flow_outlet.specs.History.{listed}
use Rattle.flow_outlet.specs.Outlet.{first_of}
use Rattle.flow_spread.specs.Copied.{pick, IsPartOf, IsFrontOf, carried}

-- Parts

-- what is struck out of a longer list
more_by : (us : List Value) (w : Value) (ws : List Value)
    → ((u : Value) (rest : List Value) → is_subsequence (u ∷ rest) ws ≡ true → is_subsequence rest ws ≡ true)
    → is_subsequence us ws ≡ true → is_subsequence us (w ∷ ws) ≡ true
more_by [] w ws tail e = refl
more_by (u ∷ us) w ws tail e = by_same (same_value u w)
  where
    by_same : (same : Bool) → elim same [ true ↦ is_subsequence us ws | false ↦ is_subsequence (u ∷ us) ws ] ≡ true
    by_same true = tail u us e
    by_same false = e

tail_of : (ws : List Value) (u : Value) (us : List Value) → is_subsequence (u ∷ us) ws ≡ true → is_subsequence us ws ≡ true
tail_of [] u us e = absurd (cc)
tail_of (w ∷ ws) u us e = by_same (same_value u w) (tail_of ws) e
  where
    by_same : (same : Bool)
        → ((x : Value) (rest : List Value) → is_subsequence (x ∷ rest) ws ≡ true → is_subsequence rest ws ≡ true)
        → elim same [ true ↦ is_subsequence us ws | false ↦ is_subsequence (u ∷ us) ws ] ≡ true
        → is_subsequence us (w ∷ ws) ≡ true
    by_same true tail is = more_by us w ws tail is
    by_same false tail is = more_by us w ws tail (tail u us is)

picked : (chosen : List Bool) (whole : List Value) → is_subsequence (pick chosen whole) whole ≡ true
picked [] whole = refl
picked (true ∷ chosen) [] = refl
picked (false ∷ chosen) [] = refl
picked (true ∷ chosen) (v ∷ whole) = by_same (same_value v v) (same_value_refl v) (picked chosen whole)
  where
    by_same : (same : Bool) → same ≡ true → is_subsequence (pick chosen whole) whole ≡ true
        → elim same [
          | true ↦ is_subsequence (pick chosen whole) whole
          | false ↦ is_subsequence (v ∷ pick chosen whole) whole
        ] ≡ true
    by_same true is later = later
    by_same false is later = absurd (cc)
picked (false ∷ chosen) (v ∷ whole) = more_by (pick chosen whole) v whole (tail_of whole) (picked chosen whole)

pub part_passes : {part whole : List Value} → IsPartOf part whole → is_subsequence part whole ≡ true
part_passes {whole = whole} of = subst (λ (p : List Value). is_subsequence p whole ≡ true) of.is (picked of.chosen whole)

-- a part of one element at most begins it
picked_front : (chosen : List Bool) (whole : List Value) → length whole ≤ 1 → is_front (pick chosen whole) whole ≡ true
picked_front [] whole few = refl
picked_front (true ∷ chosen) [] few = refl
picked_front (false ∷ chosen) [] few = refl
picked_front (b ∷ chosen) (v ∷ w ∷ whole) few = absurd (omega (arith, few))
picked_front (true ∷ []) (v ∷ []) few = front_refl (v ∷ [])
picked_front (true ∷ true ∷ chosen) (v ∷ []) few = front_refl (v ∷ [])
picked_front (true ∷ false ∷ chosen) (v ∷ []) few = front_refl (v ∷ [])
picked_front (false ∷ []) (v ∷ []) few = refl
picked_front (false ∷ true ∷ chosen) (v ∷ []) few = refl
picked_front (false ∷ false ∷ chosen) (v ∷ []) few = refl

pub part_begins : {part whole : List Value} → IsPartOf part whole → length whole ≤ 1 → is_front part whole ≡ true
part_begins {whole = whole} of few = subst (λ (p : List Value). is_front p whole ≡ true) of.is (picked_front of.chosen whole few)

pub front_passes : {front whole : List Value} → IsFrontOf front whole → is_front front whole ≡ true
front_passes {front} of = subst (λ (w : List Value). is_front front w ≡ true) of.is (front_append front of.rest)

-- The newest

pub before_newest : (older : List Value) (v : Value) → without_last (older ++ v ∷ []) ≡ older
before_newest older v = front_without older (v ∷ [])

newest_at : (older : List Value) (v : Value) → drop (length (older ++ v ∷ []) - 1) (older ++ v ∷ []) ≡ v ∷ []
newest_at older v =
    let count : length (older ++ v ∷ []) - 1 ≡ length older = omega (arith, length-append older (v ∷ [])) in
    ap (λ (n : ℕ). drop n (older ++ v ∷ [])) count ∙ drop-append_seam older (v ∷ [])

-- what is left is the newest
pub newest_left_so : (elements older : List Value) (element : Option Value) (nobody : Bool) → older ++ listed element ≡ elements
    → (nobody ≡ false → is_some element ≡ true)
    → (is_empty (listed (cond nobody None element))
    || same_values (listed (cond nobody None element)) (drop (length elements - 1) elements)) ≡ true
newest_left_so elements older element true newest there = refl
newest_left_so elements older None false newest there = never_both false (there refl) refl
newest_left_so elements older (Some v) false newest there =
    same_values_where (v ∷ []) (drop (length elements - 1) elements)
    (sym (newest_at older v) ∙ ap (λ (all : List Value). drop (length all - 1) all) newest)

-- Each link

module _ (rule : LinkRule) (given elements older : List Value) (element : Option Value) (owes refused left seen : Bool)
    (newest : older ++ listed element ≡ elements) (owed : owes ≡ true → (left ≡ true) × (is_some element ≡ true))
    (told : refused ≡ true → seen ≡ true) where
  -- where the element is still to go over the link, the older ones are all but the last
  older_is : owes ≡ true → carried rule (older ++ cond owes [] (listed element)) ≡ carried rule (without_last elements)
  older_is is = by_element element newest (owed is).1
    where
      by_element : (at : Option Value) → older ++ listed at ≡ elements → is_some at ≡ true
          → carried rule (older ++ cond owes [] (listed element)) ≡ carried rule (without_last elements)
      by_element None same there = absurd (cc)
      by_element (Some v) same there =
          ap (λ (b : Bool). carried rule (older ++ cond b [] (listed element))) is
          ∙ ap (carried rule) (append-nil older ∙ sym (before_newest older v) ∙ ap (λ (all : List Value). without_last all) same)

  newest_is : owes ≡ false → carried rule (older ++ cond owes [] (listed element)) ≡ carried rule elements
  newest_is is =
      ap (λ (b : Bool). carried rule (older ++ cond b [] (listed element))) is ∙ ap (carried rule) newest

  three : (a b c : Bool) → (refused ≡ false → owes ≡ false → a ≡ true) → (refused ≡ false → owes ≡ true → b ≡ true)
      → (refused ≡ true → (a || b || c) ≡ true) → (a || b || c) ≡ true
  three a b c first second third = by_both refused owes refl refl
    where
      by_both : (r o : Bool) → refused ≡ r → owes ≡ o → (a || b || c) ≡ true
      by_both true o is owing = third is
      by_both false false is owing = or_left (a || b) c (or_left a b (first is owing))
      by_both false true is owing = or_left (a || b) c (or_right a b (second is owing))

  pub carries_all_so : (refused ≡ false → given ≡ carried rule (older ++ cond owes [] (listed element)))
      → IsFrontOf given (carried rule elements)
      → (same_values given (carried rule elements)
      || (left && same_values given (carried rule (without_last elements)))
      || (seen && is_front given (carried rule elements))) ≡ true
  carries_all_so all front =
      let a = same_values given (carried rule elements) in
      let b = left && same_values given (carried rule (without_last elements)) in
      let c = seen && is_front given (carried rule elements) in
      three a b c
      (λ taking is. same_values_where given (carried rule elements) (all taking ∙ newest_is is))
      (λ taking is. and_from left (same_values given (carried rule (without_last elements))) (owed is).0
      (same_values_where given (carried rule (without_last elements)) (all taking ∙ older_is is)))
      (λ is. or_right (a || b) c (and_from seen (is_front given (carried rule elements)) (told is) (front_passes front)))

  -- the first of those is given first
  begins_with : (all : List Value) → first_of given ≡ first_of all → is_front (take 1 all) given ≡ true
  begins_with [] e = refl
  begins_with (v ∷ all) e = by_given given e
    where
      by_given : (vs : List Value) → first_of vs ≡ Some v → is_front (v ∷ []) vs ≡ true
      by_given [] is = absurd (cc)
      by_given (w ∷ vs) is =
          let same : w ≡ v = cc in
          subst (λ (u : Value). is_front (v ∷ []) (u ∷ vs) ≡ true) (sym same)
          (and_from (same_value v v) true (same_value_refl v) refl)

  pub carries_first_so : (refused ≡ false → first_of given ≡ first_of (carried rule (older ++ cond owes [] (listed element))))
      → (is_some (first_of given) ≡ true → first_of given ≡ first_of (carried rule elements))
      → (is_front (take 1 (carried rule elements)) given
      || (left && is_front (take 1 (carried rule (without_last elements))) given)
      || (seen && is_empty given)) ≡ true
  carries_first_so first begun =
      let a = is_front (take 1 (carried rule elements)) given in
      let b = left && is_front (take 1 (carried rule (without_last elements))) given in
      let c = seen && is_empty given in
      three a b c
      (λ taking is. begins_with (carried rule elements) (first taking ∙ ap first_of (newest_is is)))
      (λ taking is. and_from left (is_front (take 1 (carried rule (without_last elements))) given) (owed is).0
      (begins_with (carried rule (without_last elements)) (first taking ∙ ap first_of (older_is is))))
      (λ is. by_given is (is_empty given) refl)
    where
      some_first : (vs : List Value) → is_empty vs ≡ false → is_some (first_of vs) ≡ true
      some_first [] e = absurd (cc)
      some_first (v ∷ vs) e = refl

      by_given : refused ≡ true → (none : Bool) → is_empty given ≡ none
          → (is_front (take 1 (carried rule elements)) given
          || (left && is_front (take 1 (carried rule (without_last elements))) given)
          || (seen && is_empty given)) ≡ true
      by_given is true none =
          or_right (is_front (take 1 (carried rule elements)) given
          || (left && is_front (take 1 (carried rule (without_last elements))) given)) (seen && is_empty given)
          (and_from seen (is_empty given) (told is) none)
      by_given is false some =
          or_left (is_front (take 1 (carried rule elements)) given
          || (left && is_front (take 1 (carried rule (without_last elements))) given)) (seen && is_empty given)
          (or_left (is_front (take 1 (carried rule elements)) given)
          (left && is_front (take 1 (carried rule (without_last elements))) given)
          (begins_with (carried rule elements) (begun (some_first given some))))

-- a link of what takes once, over which something was given unless it has nothing to wait for
pub served_so : (given : List Value) (admitted refused : Bool) → (is_empty given ≡ true → admitted ≡ true → refused ≡ true)
    → (not (is_empty given) || not admitted || refused) ≡ true
served_so (v ∷ given) admitted refused h = refl
served_so [] false refused h = refl
served_so [] true refused h = h refl refl

-- the only element is what was taken
pub only_one : (elements older : List Value) (v : Value) → older ++ v ∷ [] ≡ elements → length elements ≤ 1 → elements ≡ v ∷ []
only_one elements [] v e few = sym e
only_one elements (u ∷ older) v e few =
    let count : length (u ∷ older ++ v ∷ []) ≡ length elements = ap length e in
    absurd (omega (arith, count, few, length-append older (v ∷ [])))
