-- What tests of lists and of options tell, and what a change of elements leaves of them.
use Rattle.std.proofs.Common.{◌≡◌, ℕ, zero, suc, ◌<◌, Bool, true, false, ◌&&◌, ◌||◌, List, [], ◌∷◌, ◌++◌, length, set, map, get_or, Option, Some, None, is_some, is_none, refl, ap, arith}
use Rattle.std.proofs.lemmas.Bool.{and_from, and_parts, or_left, or_right}
use Rattle.flow_link.specs.Lists.{every, some}
use Rattle.flow_link.proofs.ListTests.{or_weaker}

-- What a test of a list tells of its elements

pub every_tells : {A : Type 0} (test : A → Bool) (xs : List A) (d : A) (k : ℕ) → every test xs ≡ true → k < length xs
    → test (get_or xs k d) ≡ true
every_tells test [] d k e small = absurd (omega arith)
every_tells test (x ∷ xs) d zero e small = (and_parts (test x) (every test xs) e).0
every_tells test (x ∷ xs) d (suc k) e small =
    every_tells test xs d k (and_parts (test x) (every test xs) e).1 (omega arith)

-- a place of a list at which a test passes
pub record PassesAt {A : Type 0} (test : A → Bool) (xs : List A) (d : A) : Type 0 where
  pub place : ℕ
  pub there : place < length xs
  pub passes : test (get_or xs place d) ≡ true

pub some_tells : {A : Type 0} (test : A → Bool) (xs : List A) (d : A) → some test xs ≡ true → PassesAt test xs d
some_tells test [] d e = absurd (cc)
some_tells test (x ∷ xs) d e = by_first (test x) refl (some_tells test xs d) e
  where
    by_first : (b : Bool) → test x ≡ b → (some test xs ≡ true → PassesAt test xs d) → b || some test xs ≡ true
        → PassesAt test (x ∷ xs) d
    by_first true is later e = record { place = 0; there = omega arith; passes = is }
    by_first false is later e =
        let found = later e in
        record { place = suc found.place; there = omega (arith, found.there); passes = found.passes }

-- Where a test of a list passes

pub every_where : {A : Type 0} (test : A → Bool) (xs : List A) (d : A)
    → ((k : ℕ) → k < length xs → test (get_or xs k d) ≡ true) → every test xs ≡ true
every_where test [] d h = refl
every_where test (x ∷ xs) d h =
    and_from (test x) (every test xs) (h 0 (omega arith)) (every_where test xs d (λ k small. h (suc k) (omega arith)))

pub some_where : {A : Type 0} (test : A → Bool) (xs : List A) (d : A) (k : ℕ) → k < length xs
    → test (get_or xs k d) ≡ true → some test xs ≡ true
some_where test [] d k small e = absurd (omega arith)
some_where test (x ∷ xs) d zero small e = or_left (test x) (some test xs) e
some_where test (x ∷ xs) d (suc k) small e =
    or_right (test x) (some test xs) (some_where test xs d k (omega arith) e)

pub some_last : {A : Type 0} (test : A → Bool) (xs : List A) (x : A) → test x ≡ true → some test (xs ++ x ∷ []) ≡ true
some_last test [] x is = or_left (test x) false is
some_last test (y ∷ ys) x is = or_right (test y) (some test (ys ++ x ∷ [])) (some_last test ys x is)

-- Tests of a list in which one element changes, or each one

pub some_set : {A : Type 0} (test : A → Bool) (xs : List A) (k : ℕ) (x d : A)
    → (test (get_or xs k d) ≡ true → test x ≡ true)
    → some test xs ≡ true → some test (set xs k x) ≡ true
some_set test [] k x d kept e = absurd (cc)
some_set test (y ∷ ys) zero x d kept e = or_weaker (test y) (some test ys) (test x) (some test ys) kept (λ is. is) e
some_set test (y ∷ ys) (suc k) x d kept e =
    or_weaker (test y) (some test ys) (test y) (some test (set ys k x)) (λ is. is) (some_set test ys k x d kept) e

pub every_set : {A : Type 0} (test : A → Bool) (xs : List A) (k : ℕ) (x d : A) → test x ≡ test (get_or xs k d)
    → every test (set xs k x) ≡ every test xs
every_set test [] k x d same = refl
every_set test (y ∷ ys) zero x d same = ap (λ (b : Bool). b && every test ys) same
every_set test (y ∷ ys) (suc k) x d same = ap (λ (b : Bool). test y && b) (every_set test ys k x d same)

pub some_map : {A : Type 0} (test : A → Bool) (change : A → A) (xs : List A) → ((x : A) → test (change x) ≡ test x)
    → some test (map change xs) ≡ some test xs
some_map test change [] same = refl
some_map test change (x ∷ xs) same = rw (same x, some_map test change xs same) refl

pub every_map : {A : Type 0} (test : A → Bool) (change : A → A) (xs : List A) → ((x : A) → test (change x) ≡ test x)
    → every test (map change xs) ≡ every test xs
every_map test change [] same = refl
every_map test change (x ∷ xs) same = rw (same x, every_map test change xs same) refl

-- Options

pub none_is : {A : Type 0} (o : Option A) → is_none o ≡ true → o ≡ None
none_is None e = refl
none_is (Some x) e = absurd (cc)

pub none_unless : {A : Type 0} (o : Option A) → is_some o ≡ false → o ≡ None
none_unless None e = refl
none_unless (Some x) e = absurd (cc)

pub some_is : {A : Type 0} (o : Option A) → is_some o ≡ true → (x : A) × (o ≡ Some x)
some_is None e = absurd (cc)
some_is (Some x) e = (x, refl)
