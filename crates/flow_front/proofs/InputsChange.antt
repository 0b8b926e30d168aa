-- What becomes of the inputs where one of the lists changes.
use Rattle.std.proofs.Common.{◌≡◌, ℕ, zero, suc, ◌<◌, Bool, true, List, [], ◌∷◌, length, map, get_or, set, replicate, Option, Some, IfSome, refl, ap, sym, ◌∙◌, subst, arith}
use Rattle.std.proofs.lemmas.Bool.{and_from, and_parts}
use Rattle.std.proofs.lemmas.List.{map-set, get_or-map, length-map}
use Rattle.std.proofs.Math.Seq.{map-set_same}
use Rattle.flow_link.specs.Trace.{InputTrace}
use Rattle.flow_link.specs.declared.posted.Posted.{Posted}
use Rattle.flow_link.specs.Posted.{input_of, ends_by_number, is_numbered_ending}
use Rattle.flow_link.specs.Lists.{every}
use Rattle.flow_front.specs.Inputs.{changed_at, nothing_posted}

-- one list is changed, and the others stay
pub changes_one : (lists : List Posted) (place : ℕ) (old new : Posted) (change : InputTrace → InputTrace)
    → place < length lists
    → old ≡ get_or lists place old
    → input_of new ≡ change (input_of old)
    → map input_of (set lists place new) ≡ changed_at place change (map input_of lists)
changes_one lists place old new change low is same =
    map-set input_of lists place new
    ∙ ap (λ (input : InputTrace). set (map input_of lists) place input)
    (same ∙ ap change (ap input_of is ∙ sym (get_or-map input_of lists place old nothing_posted low)))

-- a list that reads the same takes the place of the old one
pub changes_none : (lists : List Posted) (place : ℕ) (old new : Posted)
    → place < length lists
    → old ≡ get_or lists place old
    → input_of new ≡ input_of old
    → map input_of (set lists place new) ≡ map input_of lists
changes_none lists place old new low is same =
    map-set_same input_of lists place new old (same ∙ ap input_of is)

-- what holds at a place holds at the place that is looked up there
pub at_place : (P : ℕ → Type 0) (found : Option ℕ) (place : ℕ) → found ≡ Some place → P place → IfSome found P
at_place P found place is holds = subst (λ (o : Option ℕ). IfSome o P) (sym is) holds

-- inputs to which nothing is posted end by no fault
nothing_numbered : (count : ℕ) → every ends_by_number (replicate count nothing_posted) ≡ true
nothing_numbered zero = refl
nothing_numbered (suc count) = nothing_numbered count

pub all_numbered : (count : ℕ) (inputs : List InputTrace) → inputs ≡ replicate count nothing_posted → every ends_by_number inputs ≡ true
all_numbered count inputs is = ap (every ends_by_number) is ∙ nothing_numbered count

-- where one list is changed for another that ends by no fault 0
every_set : {A : Type 0} (test : A → Bool) (xs : List A) (place : ℕ) (new : A) → every test xs ≡ true → test new ≡ true
    → every test (set xs place new) ≡ true
every_set test [] place new all is = refl
every_set test (x ∷ xs) zero new all is = and_from (test new) (every test xs) is (and_parts (test x) (every test xs) all).1
every_set test (x ∷ xs) (suc place) new all is =
    let parts = and_parts (test x) (every test xs) all in
    and_from (test x) (every test (set xs place new)) parts.0 (every_set test xs place new parts.1 is)

-- what every list passes, the list at a place passes
every_at : {A : Type 0} (test : A → Bool) (xs : List A) (place : ℕ) (fallback : A) → every test xs ≡ true → place < length xs
    → test (get_or xs place fallback) ≡ true
every_at {A = A} test [] place fallback all low = elim low [ ]
every_at test (x ∷ xs) zero fallback all low = (and_parts (test x) (every test xs) all).0
every_at test (x ∷ xs) (suc place) fallback all low =
    every_at test xs place fallback (and_parts (test x) (every test xs) all).1 (omega arith)

pub numbered_after : (lists : List Posted) (place : ℕ) (new : Posted) → every ends_by_number (map input_of lists) ≡ true
    → ends_by_number (input_of new) ≡ true → every ends_by_number (map input_of (set lists place new)) ≡ true
numbered_after lists place new all is =
    ap (every ends_by_number) (map-set input_of lists place new) ∙ every_set ends_by_number (map input_of lists) place (input_of new) all is

-- where the new list ends as the old one does
pub numbered_as_before : (lists : List Posted) (place : ℕ) (old new : Posted)
    → place < length lists
    → old ≡ get_or lists place old
    → new.ending ≡ old.ending
    → every ends_by_number (map input_of lists) ≡ true
    → every ends_by_number (map input_of (set lists place new)) ≡ true
numbered_as_before lists place old new low is same all =
    let at_old = ap ends_by_number (ap input_of is ∙ sym (get_or-map input_of lists place old nothing_posted low))
    ∙ every_at ends_by_number (map input_of lists) place nothing_posted all (subst (λ (n : ℕ). place < n) (sym (length-map lists input_of)) low) in
    numbered_after lists place new all (ap is_numbered_ending same ∙ at_old)
