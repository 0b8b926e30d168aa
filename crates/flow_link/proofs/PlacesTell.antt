-- The place of a number among those that pass a test, and of an element: it is there, and no two have the same.
use Rattle.std.proofs.Common.{◌≡◌, ℕ, zero, suc, ◌+◌, ◌<◌, ◌≤◌, Bool, true, false, cond, List, [], ◌∷◌, length, take, filter}
use Rattle.std.proofs.Common.{get_or, set, refl, ap, ◌∙◌, subst, arith, ⊎_elim}
use Rattle.std.specs.List.{count_by}
use Rattle.std.proofs.lemmas.Bool.{cases_order}
use Rattle.std.proofs.lemmas.List.{get_or-take, length-take-le, take-take}
use Rattle.std.proofs.lemmas.List.Sums.{length-filter, sum_by_more_le}
use Rattle.flow_link.specs.Lists.{numbers_from, below}
use Rattle.flow_link.proofs.ListTests.{length_numbers}

-- Elements that pass a test

-- before an element that passes there are fewer than in all
pub count_within : {A : Type 0} (test : A → Bool) (xs : List A) (i : ℕ) (d : A) → i < length xs
    → test (get_or xs i d) ≡ true
    → count_by test (take i xs) < count_by test xs
count_within test xs i d low e =
    let more = sum_by_more_le (λ x. cond (test x) 1 0) xs i d low in
    let one = subst (λ (b : Bool). count_by test (take i xs) + cond b 1 0 ≤ count_by test xs) e more in
    omega (arith, one)

-- so it comes after fewer that pass than a later one
count_rises : {A : Type 0} (test : A → Bool) (xs : List A) (i j : ℕ) (d : A) → i < j → j < length xs
    → test (get_or xs i d) ≡ true
    → count_by test (take i xs) < count_by test (take j xs)
count_rises test xs i j d less low e =
    subst (λ (ys : List _). count_by test ys < count_by test (take j xs)) (take-take i j xs (omega arith))
    (count_within test (take j xs) i d (omega (arith, length-take-le j xs (omega arith)))
    (ap test (get_or-take j xs i d less) ∙ e))

first_found : {A : Type 0} (b : Bool) (x d : A) (xs : List A) → b ≡ true → get_or (cond b (x ∷ xs) xs) 0 d ≡ x
first_found true x d xs e = refl
first_found false x d xs e = cc

later_found : {A : Type 0} (b : Bool) (x d : A) (xs ys : List A)
    → get_or (cond b (x ∷ ys) ys) (length (cond b (x ∷ xs) xs)) d ≡ get_or ys (length xs) d
later_found true x d xs ys = refl
later_found false x d xs ys = refl

-- among those that pass it is found after those before it
passing_found : {A : Type 0} (test : A → Bool) (xs : List A) (i : ℕ) (d : A) → i < length xs
    → test (get_or xs i d) ≡ true
    → get_or (filter test xs) (length (filter test (take i xs))) d ≡ get_or xs i d
passing_found test [] i d low e = absurd (omega arith)
passing_found test (x ∷ xs) zero d low e = first_found (test x) x d (filter test xs) e
passing_found test (x ∷ xs) (suc i) d low e =
    later_found (test x) x d (filter test (take i xs)) (filter test xs) ∙ passing_found test xs i d (omega arith) e

-- what rises is not the same at two places
rising_differs : (place : ℕ → ℕ) (i j : ℕ) → (i < j → place i < place j) → (j < i → place j < place i)
    → place i ≡ place j
    → i ≡ j
rising_differs place i j up down same =
    ⊎_elim (λ is. is)
    (⊎_elim (λ less. let rise = up less in absurd (omega arith)) (λ more. let rise = down more in absurd (omega arith)))
    (cases_order i j)

-- two elements that pass come after two numbers of them
pub counts_differ : {A : Type 0} (test : A → Bool) (xs : List A) (i j : ℕ) (d : A) → i < length xs → j < length xs
    → test (get_or xs i d) ≡ true → test (get_or xs j d) ≡ true
    → count_by test (take i xs) ≡ count_by test (take j xs) → i ≡ j
counts_differ test xs i j d low_i low_j ei ej same =
    rising_differs (λ k. count_by test (take k xs)) i j (λ less. count_rises test xs i j d less low_j ei)
    (λ more. count_rises test xs j i d more low_i ej) same

-- Numbers that pass a test

-- each number stands at its own place, after those that are less
numbers_at : (first count k d : ℕ) → k < count → get_or (numbers_from first count) k d ≡ first + k
numbers_at first zero k d small = absurd (omega arith)
numbers_at first (suc count) zero d small = omega arith
numbers_at first (suc count) (suc k) d small = numbers_at (suc first) count k d (omega arith) ∙ omega arith

pub below_at : (count k d : ℕ) → k < count → get_or (below count) k d ≡ k
below_at count k d small = numbers_at 0 count k d small ∙ omega arith

take_numbers : (first i count : ℕ) → i ≤ count → take i (numbers_from first count) ≡ numbers_from first i
take_numbers first zero zero small = refl
take_numbers first zero (suc count) small = refl
take_numbers first (suc i) zero small = absurd (omega arith)
take_numbers first (suc i) (suc count) small =
    ap (λ (ns : List ℕ). first ∷ ns) (take_numbers (suc first) i count (omega arith))

-- a number that passes has a lesser place than a later one
pub place_rises : (test : ℕ → Bool) (i j : ℕ) → i < j → test i ≡ true
    → length (filter test (below i)) < length (filter test (below j))
place_rises test i j less e =
    let small : i < length (below j) = omega (arith, length_numbers 0 j) in
    let within = count_within test (below j) i 0 small (ap test (below_at j i 0 less) ∙ e) in
    let front = ap (count_by test) (take_numbers 0 i j (omega arith)) in
    omega (arith, within, front, length-filter test (below i), length-filter test (below j))

-- two numbers that pass have two places
pub places_differ : (test : ℕ → Bool) (i j : ℕ) → test i ≡ true → test j ≡ true
    → length (filter test (below i)) ≡ length (filter test (below j)) → i ≡ j
places_differ test i j ei ej same =
    rising_differs (λ k. length (filter test (below k))) i j (λ less. place_rises test i j less ei)
    (λ more. place_rises test j i more ej) same

-- at its place a number that passes is found
pub place_finds : (test : ℕ → Bool) (i j d : ℕ) → i < j → test i ≡ true
    → get_or (filter test (below j)) (length (filter test (below i))) d ≡ i
place_finds test i j d less e =
    let is = below_at j i d less in
    subst (λ (ns : List ℕ). get_or (filter test (below j)) (length (filter test ns)) d ≡ get_or (below j) i d)
    (take_numbers 0 i j (omega arith))
    (passing_found test (below j) i d (omega (arith, length_numbers 0 j)) (ap test is ∙ e)) ∙ is

-- a list is changed at one place
pub element_set : {A : Type 0} (P : ℕ → A → Type 0) (xs : List A) (i j : ℕ) (x d : A)
    → (j ≡ i → P j x) → P j (get_or xs j d) → P j (get_or (set xs i x) j d)
element_set P [] i j x d changed has = has
element_set P (y ∷ ys) zero zero x d changed has = changed refl
element_set P (y ∷ ys) zero (suc j) x d changed has = has
element_set P (y ∷ ys) (suc i) zero x d changed has = has
element_set P (y ∷ ys) (suc i) (suc j) x d changed has =
    element_set (λ n. P (suc n)) ys i j x d (λ same. changed (ap suc same)) has
