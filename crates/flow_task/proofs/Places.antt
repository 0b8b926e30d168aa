-- A list whose elements are, place by place, what a function says of their places.
use Rattle.std.proofs.Common.{◌≡◌, ℕ, zero, suc, ◌+◌, ◌<◌, List, [], ◌∷◌, length, map, slice_get, slice_index_or, slice_set, Some, refl, sym, ap, ◌∙◌, subst, arith}
use Rattle.flow_link.specs.Lists.{numbers_from, below}

head_is : {A : Type 0} (x y : A) (xs ys : List A) → x ∷ xs ≡ y ∷ ys → x ≡ y
head_is x y xs ys e = cc

tail_is : {A : Type 0} (x y : A) (xs ys : List A) → x ∷ xs ≡ y ∷ ys → xs ≡ ys
tail_is x y xs ys e = cc

cons_is : {A : Type 0} (x y : A) (xs ys : List A) → x ≡ y → xs ≡ ys → x ∷ xs ≡ y ∷ ys
cons_is x y xs ys e es = cc

same_from : {V : Type 0} (f g : ℕ → V) (start n : ℕ) → ((j : ℕ) → j < n → g (start + j) ≡ f (start + j))
    → map f (numbers_from start n) ≡ map g (numbers_from start n)
same_from f g start zero same = refl
same_from f g start (suc n) same =
    cons_is (f start) (g start) (map f (numbers_from (suc start) n)) (map g (numbers_from (suc start) n))
    (sym (subst (λ (i : ℕ). g i ≡ f i) (omega arith) (same 0 (omega arith))))
    (same_from f g (suc start) n (λ j small. subst (λ (i : ℕ). g i ≡ f i) (omega arith) (same (suc j) (omega arith))))

-- two functions that say the same at each place
pub all_same : {V : Type 0} (f g : ℕ → V) (n : ℕ) → ((j : ℕ) → j < n → g j ≡ f j) → map f (below n) ≡ map g (below n)
all_same f g n same = same_from f g 0 n (λ j small. subst (λ (i : ℕ). g i ≡ f i) (omega arith) (same j small))

module _ {E V : Type 0} (view : E → V) where
  count_from : (f : ℕ → V) (start n : ℕ) (xs : List E) → map view xs ≡ map f (numbers_from start n) → length xs ≡ n
  count_from f start zero [] are = refl
  count_from f start zero (x ∷ xs) are = absurd (cc)
  count_from f start (suc n) [] are = absurd (cc)
  count_from f start (suc n) (x ∷ xs) are =
      ap suc (count_from f (suc start) n xs (tail_is (view x) (f start) (map view xs) (map f (numbers_from (suc start) n)) are))

  at_from : (f : ℕ → V) (start n : ℕ) (xs : List E) (k : ℕ) (d : E) → map view xs ≡ map f (numbers_from start n) → k < n
      → view (slice_index_or xs k d) ≡ f (start + k)
  at_from f start zero xs k d are small = absurd (omega arith)
  at_from f start (suc n) [] k d are small = absurd (cc)
  at_from f start (suc n) (x ∷ xs) zero d are small =
      head_is (view x) (f start) (map view xs) (map f (numbers_from (suc start) n)) are ∙ ap f (omega arith)
  at_from f start (suc n) (x ∷ xs) (suc k) d are small =
      at_from f (suc start) n xs k d (tail_is (view x) (f start) (map view xs) (map f (numbers_from (suc start) n)) are) (omega arith)
      ∙ ap f (omega arith)

  set_from : (f g : ℕ → V) (start n : ℕ) (xs : List E) (k : ℕ) (x : E) → map view xs ≡ map f (numbers_from start n) → k < n
      → view x ≡ g (start + k) → ((j : ℕ) → j < n → (j ≡ k → ⊥) → g (start + j) ≡ f (start + j))
      → map view (slice_set xs k x) ≡ map g (numbers_from start n)
  set_from f g start zero xs k x are small here others = absurd (omega arith)
  set_from f g start (suc n) [] k x are small here others = absurd (cc)
  set_from f g start (suc n) (y ∷ xs) zero x are small here others =
      let rest = tail_is (view y) (f start) (map view xs) (map f (numbers_from (suc start) n)) are in
      cons_is (view x) (g start) (map view xs) (map g (numbers_from (suc start) n))
      (here ∙ ap g (omega arith))
      (rest ∙ same_from f g (suc start) n
      (λ j low. subst (λ (i : ℕ). g i ≡ f i) (omega arith) (others (suc j) (omega arith) (λ is. absurd (omega (arith, is))))))
  set_from f g start (suc n) (y ∷ xs) (suc k) x are small here others =
      let rest = tail_is (view y) (f start) (map view xs) (map f (numbers_from (suc start) n)) are in
      let first = head_is (view y) (f start) (map view xs) (map f (numbers_from (suc start) n)) are in
      cons_is (view y) (g start) (map view (slice_set xs k x)) (map g (numbers_from (suc start) n))
      (first ∙ sym (subst (λ (i : ℕ). g i ≡ f i) (omega arith) (others 0 (omega arith) (λ is. absurd (omega (arith, is))))))
      (set_from f g (suc start) n xs k x rest (omega arith) (here ∙ ap g (omega arith))
      (λ j low apart. subst (λ (i : ℕ). g i ≡ f i) (omega arith) (others (suc j) (omega arith) (λ is. apart (omega (arith, is))))))

  -- it has as many elements
  pub count_is : (f : ℕ → V) (n : ℕ) (xs : List E) → map view xs ≡ map f (below n) → length xs ≡ n
  count_is f n xs are = count_from f 0 n xs are

  -- the element at a place
  pub at_place : (f : ℕ → V) (n : ℕ) (xs : List E) (k : ℕ) (d : E) → map view xs ≡ map f (below n) → k < n
      → view (slice_index_or xs k d) ≡ f k
  at_place f n xs k d are small = at_from f 0 n xs k d are small ∙ ap f (omega arith)

  -- one element changes, and the function with it
  pub set_at : (f g : ℕ → V) (n : ℕ) (xs : List E) (k : ℕ) (x : E) → map view xs ≡ map f (below n) → k < n
      → view x ≡ g k → ((j : ℕ) → j < n → (j ≡ k → ⊥) → g j ≡ f j) → map view (slice_set xs k x) ≡ map g (below n)
  set_at f g n xs k x are small here others =
      set_from f g 0 n xs k x are small (here ∙ ap g (omega arith))
      (λ j low apart. subst (λ (i : ℕ). g i ≡ f i) (omega arith) (others j low apart))

-- what is found at a place stands there
pub found_low : {A : Type 0} (xs : List A) (i : ℕ) (x : A) → slice_get xs i ≡ Some x → i < length xs
found_low [] i x e = absurd (cc)
found_low (y ∷ xs) zero x e = omega arith
found_low (y ∷ xs) (suc i) x e = let low = found_low xs i x e in omega (arith, low)

pub found_there : {A : Type 0} (xs : List A) (i : ℕ) (x d : A) → slice_get xs i ≡ Some x → slice_index_or xs i d ≡ x
found_there [] i x d e = absurd (cc)
found_there (y ∷ xs) zero x d e = cc
found_there (y ∷ xs) (suc i) x d e = found_there xs i x d e

pub stands_there : {A : Type 0} (xs : List A) (i : ℕ) (d : A) → i < length xs → slice_get xs i ≡ Some (slice_index_or xs i d)
stands_there [] i d low = absurd (omega (arith, low))
stands_there (x ∷ xs) zero d low = refl
stands_there (x ∷ xs) (suc i) d low = stands_there xs i d (omega (arith, low))
