-- The places that the numbers below a bound have among those that pass a test.
use Rattle.std.proofs.Common.{filter, ◌≡◌, ℕ, zero, suc, ◌+◌, ◌-◌, ◌<◌, Bool, true, false, ◌&&◌, cond, List, [], ◌∷◌, ◌++◌, length, get_or, refl, ap, sym, ◌∙◌, arith}
use Rattle.std.proofs.lemmas.List.{length-append}
use Rattle.std.proofs.lemmas.List.Elements.{filter-append}
use Rattle.std.proofs.Math.Seq.{get_or-append_seam}
use Rattle.flow_link.specs.Lists.{numbers_from, below}

-- a number that passes, with the count of those before it that pass
record StandsFrom (test : ℕ → Bool) (first count place l : ℕ) : Type 0 where
  offset : ℕ
  number_is : l ≡ first + offset
  within : offset < count
  passes : test l ≡ true
  before : length (filter test (numbers_from first offset)) ≡ place

-- a list with an element before it, where that passes
abbrev with_first : Bool → ℕ → List ℕ → List ℕ
with_first passes first rest = cond passes (first ∷ rest) rest

stands_by : (test : ℕ → Bool) (first count place : ℕ) (b : Bool) → test first ≡ b
    → ((j : ℕ) → j < length (filter test (numbers_from (suc first) count))
    → StandsFrom test (suc first) count j (get_or (filter test (numbers_from (suc first) count)) j 0))
    → place < length (with_first b first (filter test (numbers_from (suc first) count)))
    → StandsFrom test first (suc count) place
    (get_or (with_first b first (filter test (numbers_from (suc first) count))) place 0)
stands_by test first count zero true is later small =
    record { offset = 0; number_is = omega arith; within = omega arith; passes = is; before = refl }
stands_by test first count (suc place) true is later small =
    let found = later place (omega arith) in
    let rest = filter test (numbers_from (suc first) found.offset) in
    record {
      offset = suc found.offset;
      number_is = omega (arith, found.number_is);
      within = omega (arith, found.within);
      passes = found.passes;
      before = ap (λ (b : Bool). length (with_first b first rest)) is ∙ ap suc found.before;
    }
stands_by test first count place false is later small =
    let found = later place small in
    let rest = filter test (numbers_from (suc first) found.offset) in
    record {
      offset = suc found.offset;
      number_is = omega (arith, found.number_is);
      within = omega (arith, found.within);
      passes = found.passes;
      before = ap (λ (b : Bool). length (with_first b first rest)) is ∙ found.before;
    }

stands_from : (test : ℕ → Bool) (first count place : ℕ) → place < length (filter test (numbers_from first count))
    → StandsFrom test first count place (get_or (filter test (numbers_from first count)) place 0)
stands_from test first zero place small = absurd (omega arith)
stands_from test first (suc count) place small =
    stands_by test first count place (test first) refl (λ j there. stands_from test (suc first) count j there) small

-- the number at a place is below the bound and passes, and as many before it pass
pub record Stands (test : ℕ → Bool) (count place l : ℕ) : Type 0 where
  pub there : l < count
  pub passes : test l ≡ true
  pub before : length (filter test (below l)) ≡ place

pub stands_below : (test : ℕ → Bool) (count place : ℕ) → place < length (filter test (below count))
    → Stands test count place (get_or (filter test (below count)) place 0)
stands_below test count place small =
    let found = stands_from test 0 count place small in
    let same : found.offset ≡ get_or (filter test (below count)) place 0 = omega (arith, found.number_is) in
    record {
      there = omega (arith, found.within);
      passes = found.passes;
      before = ap (λ (n : ℕ). length (filter test (below n))) (sym same) ∙ found.before;
    }

-- and a number that passes stands at the place of that count
pub record HasPlace (test : ℕ → Bool) (count l : ℕ) : Type 0 where
  pub there : length (filter test (below l)) < length (filter test (below count))
  pub is_there : get_or (filter test (below count)) (length (filter test (below l))) 0 ≡ l

numbers_split : (first before after : ℕ)
    → numbers_from first (before + suc after)
    ≡ numbers_from first before ++ (first + before) ∷ numbers_from (suc (first + before)) after
numbers_split first zero after =
    let none : 0 + suc after ≡ suc after = omega arith in
    let same : first ≡ first + 0 = omega arith in
    ap (numbers_from first) none ∙ ap (λ (n : ℕ). n ∷ numbers_from (suc n) after) same
numbers_split first (suc before) after =
    let more : suc before + suc after ≡ suc (before + suc after) = omega arith in
    let same : suc first + before ≡ first + suc before = omega arith in
    ap (numbers_from first) more
    ∙ ap (λ (ns : List ℕ). first ∷ ns) (numbers_split (suc first) before after)
    ∙ ap (λ (n : ℕ). first ∷ (numbers_from (suc first) before ++ n ∷ numbers_from (suc n) after)) same

below_split : (l after : ℕ) → below (l + suc after) ≡ below l ++ l ∷ numbers_from (suc l) after
below_split l after =
    let same : 0 + l ≡ l = omega arith in
    numbers_split 0 l after ∙ ap (λ (n : ℕ). below l ++ n ∷ numbers_from (suc n) after) same

pub place_below : (test : ℕ → Bool) (count l : ℕ) → l < count → test l ≡ true → HasPlace test count l
place_below test count l small passes =
    let after = count - suc l in
    let whole : count ≡ l + suc after = omega arith in
    let rest = filter test (numbers_from (suc l) after) in
    let split : filter test (below count) ≡ filter test (below l) ++ l ∷ rest =
    ap (λ (n : ℕ). filter test (below n)) whole ∙ ap (filter test) (below_split l after)
    ∙ filter-append test (below l) (l ∷ numbers_from (suc l) after)
    ∙ ap (λ (b : Bool). filter test (below l) ++ with_first b l rest) passes in
    record {
      there = omega (arith, ap length split, length-append (filter test (below l)) (l ∷ rest));
      is_there = ap (λ (ns : List ℕ). get_or ns (length (filter test (below l))) 0) split
          ∙ get_or-append_seam (filter test (below l)) l rest 0;
    }

-- what passes two tests passes the second among those that pass the first
filter_by : (f g : ℕ → Bool) (x : ℕ) (xs : List ℕ) (a b : Bool) → g x ≡ b
    → filter (λ l. f l && g l) xs ≡ filter g (filter f xs)
    → with_first (a && b) x (filter (λ l. f l && g l) xs) ≡ filter g (with_first a x (filter f xs))
filter_by f g x xs true true is rest =
    ap (λ (ys : List ℕ). x ∷ ys) rest ∙ ap (λ (c : Bool). with_first c x (filter g (filter f xs))) (sym is)
filter_by f g x xs true false is rest =
    rest ∙ ap (λ (c : Bool). with_first c x (filter g (filter f xs))) (sym is)
filter_by f g x xs false b is rest = rest

pub filter_two : (f g : ℕ → Bool) (xs : List ℕ) → filter (λ l. f l && g l) xs ≡ filter g (filter f xs)
filter_two f g [] = refl
filter_two f g (x ∷ xs) = filter_by f g x xs (f x) (g x) refl (filter_two f g xs)

pub length_cond : {A : Type 0} (b : Bool) (x : A) (xs : List A) → length (cond b (x ∷ xs) xs) ≡ cond b 1 0 + length xs
length_cond true x xs = omega arith
length_cond false x xs = omega arith

-- as many numbers pass as of those before each
pub count_shift : (test : ℕ → Bool) (first count : ℕ)
    → length (filter test (numbers_from (suc first) count))
    ≡ length (filter (λ l. test (suc l)) (numbers_from first count))
count_shift test first zero = refl
count_shift test first (suc count) =
    length_cond (test (suc first)) (suc first) (filter test (numbers_from (suc (suc first)) count))
    ∙ ap (λ (n : ℕ). cond (test (suc first)) 1 0 + n) (count_shift test (suc first) count)
    ∙ sym (length_cond (test (suc first)) first (filter (λ l. test (suc l)) (numbers_from (suc first) count)))
