-- The first place at which a test passes, among numbers and in a list.
use Rattle.std.proofs.Common.{◌≡◌, ℕ, zero, suc, ◌+◌, ◌<◌, Bool, true, false, ◌&&◌, ◌||◌, List, [], ◌∷◌, length, Some, None, get_or, refl, ap, sym, ◌∙◌, arith}
use Rattle.std.specs.List.{list_all, list_any, find, position, position_from}
use Rattle.std.proofs.lemmas.Iterator.Adapters.{position_from-zero}
use Rattle.flow_link.specs.Lists.{every, some, numbers_from, below}

pub all_is_every : {A : Type 0} (test : A → Bool) (xs : List A) → list_all test xs ≡ every test xs
all_is_every test [] = refl
all_is_every test (x ∷ xs) = ap (λ b. test x && b) (all_is_every test xs)

pub any_is_some : {A : Type 0} (test : A → Bool) (xs : List A) → list_any test xs ≡ some test xs
any_is_some test [] = refl
any_is_some test (x ∷ xs) = ap (λ b. test x || b) (any_is_some test xs)

-- the first number that passes, where none before it does
pub first_from : (test : ℕ → Bool) (first count place : ℕ) → place < count
    → ((k : ℕ) → k < place → test (first + k) ≡ false) → test (first + place) ≡ true
    → find test (numbers_from first count) ≡ Some (first + place)
first_from test first zero place small before here = absurd (omega arith)
first_from test first (suc count) zero small before here =
    let e : first + 0 ≡ first = omega arith in
    let passes : test first ≡ true = ap test (sym e) ∙ here in
    rw passes (ap (λ n. Some n) (sym e))
first_from test first (suc count) (suc place) small before here =
    let e : first + 0 ≡ first = omega arith in
    let fails : test first ≡ false = ap test (sym e) ∙ before 0 (omega arith) in
    let moved : (k : ℕ) → suc first + k ≡ first + suc k = λ k. omega arith in
    rw fails (first_from test (suc first) count place (omega arith)
    (λ k low. ap test (moved k) ∙ before (suc k) (omega arith))
    (ap test (moved place) ∙ here)
    ∙ ap (λ n. Some n) (moved place))

pub none_from : (test : ℕ → Bool) (first count : ℕ)
    → ((k : ℕ) → k < count → test (first + k) ≡ false)
    → find test (numbers_from first count) ≡ None
none_from test first zero fails = refl
none_from test first (suc count) fails =
    let e : first + 0 ≡ first = omega arith in
    let fails_first : test first ≡ false = ap test (sym e) ∙ fails 0 (omega arith) in
    let moved : (k : ℕ) → suc first + k ≡ first + suc k = λ k. omega arith in
    rw fails_first (none_from test (suc first) count (λ k low. ap test (moved k) ∙ fails (suc k) (omega arith)))

-- the first place below a number at which a test passes, as a loop finds it
pub first_below : (test : ℕ → Bool) (count place : ℕ) → place < count
    → ((k : ℕ) → k < place → test k ≡ false) → test place ≡ true
    → find test (below count) ≡ Some place
first_below test count place small before here =
    let e : (k : ℕ) → 0 + k ≡ k = λ k. omega arith in
    first_from test 0 count place small (λ k low. ap test (e k) ∙ before k low) (ap test (e place) ∙ here) ∙ ap (λ n. Some n) (e place)

pub none_below : (test : ℕ → Bool) (count : ℕ) → ((k : ℕ) → k < count → test k ≡ false)
    → find test (below count) ≡ None
none_below test count fails =
    let e : (k : ℕ) → 0 + k ≡ k = λ k. omega arith in
    none_from test 0 count (λ k low. ap test (e k) ∙ fails k low)

-- a test of places that is a test of the elements there
pub position_from_is_first : {A : Type 0} (element : A → Bool) (place : ℕ → Bool) (xs : List A) (first : ℕ)
    → ((k : ℕ) (d : A) → k < length xs → place (first + k) ≡ element (get_or xs k d))
    → find place (numbers_from first (length xs)) ≡ position_from element first xs
position_from_is_first element place [] first same = refl
position_from_is_first element place (x ∷ xs) first same =
    let e : first + 0 ≡ first = omega arith in
    let here : place first ≡ element x = ap place (sym e) ∙ same 0 x (omega arith) in
    let moved : (k : ℕ) → suc first + k ≡ first + suc k = λ k. omega arith in
    let rest = position_from_is_first element place xs (suc first) (λ k d low. ap place (moved k) ∙ same (suc k) d (omega arith)) in
    let next : first + 1 ≡ suc first = omega arith in
    rw (here, rest, next) refl

pub position_is_first : {A : Type 0} (element : A → Bool) (place : ℕ → Bool) (xs : List A)
    → ((k : ℕ) (d : A) → k < length xs → place k ≡ element (get_or xs k d))
    → find place (below (length xs)) ≡ position element xs
position_is_first element place xs same =
    let e : (k : ℕ) → 0 + k ≡ k = λ k. omega arith in
    position_from_is_first element place xs 0 (λ k d low. ap place (e k) ∙ same k d low) ∙ sym (position_from-zero element xs)
