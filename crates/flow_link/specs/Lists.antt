-- Tests on lists, for laws that are decided by going through a trace.
use Rattle.std.specs.Prelude.{ℕ, zero, suc, ◌-◌, Bool, true, false, ◌&&◌, ◌||◌, List, [], ◌∷◌, ◌++◌, length, take}
use Rattle.flow_value.specs.Same.{same_value}
use Rattle.flow_value.specs.declared.value.Value.{Value}

-- each element passes
abbrev pub every : {A : Type 0} → (A → Bool) → List A → Bool
every test [] = true
every test (x ∷ xs) = test x && every test xs

-- some element passes
abbrev pub some : {A : Type 0} → (A → Bool) → List A → Bool
some test [] = false
some test (x ∷ xs) = test x || some test xs

abbrev pub is_empty : {A : Type 0} → List A → Bool
is_empty [] = true
is_empty (_ ∷ _) = false

-- count numbers from a first one on
abbrev pub numbers_from : ℕ → ℕ → List ℕ
numbers_from first zero = []
numbers_from first (suc count) = first ∷ numbers_from (suc first) count

-- the numbers below a number, which are the places of a list of that length
abbrev pub below : ℕ → List ℕ
below count = numbers_from 0 count

abbrev pub concat : {A : Type 0} → List (List A) → List A
concat [] = []
concat (xs ∷ rest) = xs ++ concat rest

-- all elements but the last
abbrev pub without_last : {A : Type 0} → List A → List A
without_last xs = take (length xs - 1) xs

-- the same values in the same order
abbrev pub same_values : List Value → List Value → Bool
same_values [] [] = true
same_values (u ∷ us) (v ∷ vs) = same_value u v && same_values us vs
same_values _ _ = false

-- the first list begins the second
abbrev pub is_front : List Value → List Value → Bool
is_front [] _ = true
is_front (u ∷ us) (v ∷ vs) = same_value u v && is_front us vs
is_front (_ ∷ _) [] = false

-- the first list is what is left of the second when some of its values are struck out
abbrev pub is_subsequence : List Value → List Value → Bool
is_subsequence [] _ = true
is_subsequence (_ ∷ _) [] = false
is_subsequence (u ∷ us) (v ∷ vs) = elim (same_value u v) [ true ↦ is_subsequence us vs | false ↦ is_subsequence (u ∷ us) vs ]
