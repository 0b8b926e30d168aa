-- The first place at which a test passes: what a change of the list leaves of it.
use Rattle.std.proofs.Common.{◌≡◌, ℕ, zero, suc, ◌<◌, ◌≤◌, ◌+◌, Bool, true, false, cond, nat_lt, eqb, not, List, [], ◌∷◌, ◌++◌, length, set, get_or, map, position, Option, Some, None, inl, inr, refl, sym, subst, ◌∙◌, arith, ap₂}
use Rattle.std.specs.List.{position_or_len}
use Rattle.std.proofs.lemmas.Bool.{lt-ltb, cases_lt}
use Rattle.std.proofs.lemmas.Bool.Decides.{nat_tests}
use Rattle.std.proofs.lemmas.List.{length-set, length-map, length-append}
use Rattle.std.proofs.lemmas.List.Folds.{position_or_len-set, position_or_len_push}
use Rattle.std.proofs.lemmas.List.Sums.{position_or_len_is}

abbrev below : ℕ → ℕ → Option ℕ
below n count = cond (nat_lt n count) (Some n) None

below_more : (b : Bool) (n count : ℕ) → (b ≡ true → n ≡ count) → (b ≡ false → n < count)
    → below (cond b (count + 1) n) (count + 1) ≡ below n count
below_more true n count same less = let e : n ≡ count = same refl in grind (arith, nat_tests)
below_more false n count same less = let l : n < count = less refl in grind (arith, nat_tests)

below_none : (n count : ℕ) → n ≤ count → below n count ≡ None → n ≡ count
below_none n count l e = grind (arith, nat_tests)

below_itself : (n : ℕ) → below n n ≡ None
below_itself n = grind (arith, nat_tests)

below_less : (n count : ℕ) → n < count → below n count ≡ Some n
below_less n count l = rw (lt-ltb n count l) refl

within : (b : Bool) (n count : ℕ) → n ≤ count → cond (not b) (1 + n) 0 ≤ suc count
within true n count l = omega arith
within false n count l = omega arith

module _ {X : Type 0} (p : X → Bool) where
  pub place_set : (xs : List X) (k : ℕ) (y d : X) → p y ≡ p (get_or xs k d) → position p (set xs k y) ≡ position p xs
  place_set xs k y d same = ap₂ below (position_or_len-set p xs k y d same) (length-set xs k y)

  first_map : (f : X → X) → ((x : X) → p (f x) ≡ p x) → (xs : List X) → position_or_len p (map f xs) ≡ position_or_len p xs
  first_map f same [] = refl
  first_map f same (x ∷ xs) = rw (same x, first_map f same xs) refl

  pub place_map : (f : X → X) → ((x : X) → p (f x) ≡ p x) → (xs : List X) → position p (map f xs) ≡ position p xs
  place_map f same xs = ap₂ below (first_map f same xs) (length-map xs f)

  first_within : (xs : List X) → position_or_len p xs ≤ length xs
  first_within [] = omega arith
  first_within (x ∷ xs) = within (p x) (position_or_len p xs) (length xs) (first_within xs)

  -- one more at the end, where the test fails and where it passes
  pub place_more : (xs : List X) (y : X) → p y ≡ false → position p (xs ++ y ∷ []) ≡ position p xs
  place_more xs y fails =
      let count : length (xs ++ y ∷ []) ≡ length xs + 1 = omega (arith, length-append xs (y ∷ [])) in
      let l = first_within xs in
      rw (position_or_len_push p xs y, fails, count)
      (below_more (eqb (position_or_len p xs) (length xs)) (position_or_len p xs) (length xs)
      (λ e. grind (arith, nat_tests)) (λ e. grind (arith, nat_tests)))

  pub place_new : (xs : List X) (y : X) → p y ≡ true → position p xs ≡ None → position p (xs ++ y ∷ []) ≡ Some (length xs)
  place_new xs y passes none =
      let count : length (xs ++ y ∷ []) ≡ length xs + 1 = omega (arith, length-append xs (y ∷ [])) in
      let last : position_or_len p xs ≡ length xs = below_none (position_or_len p xs) (length xs) (first_within xs) none in
      let at : position_or_len p (xs ++ y ∷ []) ≡ length xs = position_or_len_push p xs y ∙ rw (passes, last) (grind (arith, nat_tests)) in
      rw (at, count) (below_less (length xs) (length xs + 1) (omega arith))

  pub place_is : (xs : List X) (i : ℕ) (d : X) → i < length xs → ((k : ℕ) → k < i → p (get_or xs k d) ≡ false) → p (get_or xs i d) ≡ true
      → position p xs ≡ Some i
  place_is xs i d l before here =
      rw (position_or_len_is p xs i d (omega arith) before (λ _. here)) (below_less i (length xs) l)

  pub place_nowhere : (xs : List X) (d : X) → ((k : ℕ) → k < length xs → p (get_or xs k d) ≡ false) → position p xs ≡ None
  place_nowhere xs d all =
      rw (position_or_len_is p xs (length xs) d (omega arith) all (λ l. absurd (omega arith))) (below_itself (length xs))

  none_here : (xs : List X) (d : X) → position p xs ≡ None → (k : ℕ) → k < length xs → ((j : ℕ) → j < k → p (get_or xs j d) ≡ false)
      → (b : Bool) → p (get_or xs k d) ≡ b → p (get_or xs k d) ≡ false
  none_here xs d none k l before false is = is
  none_here xs d none k l before true is =
      let found = place_is xs k d l before is in
      let wrong : None ≡ Some k = sym none ∙ found in
      absurd (cc)

  none_before : (xs : List X) (d : X) → position p xs ≡ None → (k : ℕ) → k ≤ length xs → (j : ℕ) → j < k → p (get_or xs j d) ≡ false
  none_before xs d none zero l j before = absurd (omega (arith, before))
  none_before xs d none (suc k) l j before =
      let earlier = none_before xs d none k (omega (arith, l)) in
      elim (cases_lt j k) [
        | inl near ↦ earlier j near
        | inr far ↦
            let same : j ≡ k = omega (arith, before, far) in
            subst (λ (n : ℕ). p (get_or xs n d) ≡ false) (sym same) (none_here xs d none k (omega (arith, l)) earlier (p (get_or xs k d)) refl)
      ]

  -- where there is none, it fails at each
  pub place_none : (xs : List X) (d : X) → position p xs ≡ None → (k : ℕ) → k < length xs → p (get_or xs k d) ≡ false
  place_none xs d none k l = none_before xs d none (length xs) (omega arith) k l
