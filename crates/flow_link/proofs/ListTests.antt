-- What tests tell, one by one, several together, and of each element of a list.
use Rattle.std.proofs.Common.{◌≡◌, ℕ, zero, suc, ◌+◌, ◌-◌, ◌<◌, ◌≤◌, cond, Bool, true, false, ◌&&◌, ◌||◌, not, List, [], ◌∷◌, ◌++◌, length, take, drop, refl, ap, ◌∙◌, subst, arith}
use Rattle.std.proofs.lemmas.Bool.{and_from, and_parts}
use Rattle.std.proofs.lemmas.List.{length-append}
use Rattle.std.proofs.Math.Seq.{take-append_seam}
use Rattle.flow_value.specs.declared.value.Value.{Value}
use Rattle.flow_value.specs.Same.{same_value, same_value-Decides}
use Rattle.flow_link.specs.Lists.{every, some, is_empty, numbers_from, below, same_values, is_front}

-- a test does not both pass and fail
pub never_both : {P : Type 0} (b : Bool) → b ≡ true → b ≡ false → P
never_both true is not_so = absurd (cc)
never_both false is not_so = absurd (cc)

-- the second or third of three tests passes
pub or_others : (a b c : Bool) → b || c ≡ true → a || b || c ≡ true
or_others true b c e = refl
or_others false b c e = e

-- what has faulted, is done, or is not both complete and with nothing left passes
pub unless_done : (f d c n : Bool) → (f ≡ false → d ≡ false → c ≡ true → n ≡ true → ⊥) → (f || d || not (c && n)) ≡ true
unless_done true d c n h = refl
unless_done false true c n h = refl
unless_done false false true true h = absurd (h refl refl refl refl)
unless_done false false true false h = refl
unless_done false false false n h = refl

pub not_both : (a b : Bool) → (a && b) ≡ false → a ≡ true → b ≡ false
not_both true b e here = e
not_both false b e here = cc

pub or_not : (a b : Bool) → (a ≡ true → b ≡ true) → (not a || b) ≡ true
or_not true b h = h refl
or_not false b h = refl

-- what a test counts
pub at_most_one : (b : Bool) → cond b 1 0 ≤ 1
at_most_one true = omega arith
at_most_one false = omega arith

pub counts_no_less : (a b : Bool) → (a ≡ true → b ≡ true) → cond a 1 0 ≤ cond b 1 0
counts_no_less true true h = omega arith
counts_no_less true false h = never_both false (h refl) refl
counts_no_less false true h = omega arith
counts_no_less false false h = omega arith

-- a test passes for each number below a bound where it passes for any
pub every_from : (test : ℕ → Bool) (first count : ℕ) → ((k : ℕ) → k < first + count → test k ≡ true) → every test (numbers_from first count) ≡ true
every_from test first zero h = refl
every_from test first (suc count) h =
    and_from (test first) (every test (numbers_from (suc first) count))
    (h first (omega arith))
    (every_from test (suc first) count (λ k small. h k (omega arith)))

pub every_below : (test : ℕ → Bool) (count : ℕ) → ((k : ℕ) → k < count → test k ≡ true) → every test (below count) ≡ true
every_below test count h = every_from test 0 count (λ k small. h k (omega arith))

-- a test that passes for each of these numbers passes for this one
pub passes_from : (test : ℕ → Bool) (first count k : ℕ) → every test (numbers_from first count) ≡ true → k < count → test (first + k) ≡ true
passes_from test first zero k e small = absurd (omega arith)
passes_from test first (suc count) zero e small =
    let same : first + 0 ≡ first = omega arith in
    ap test same ∙ (and_parts (test first) (every test (numbers_from (suc first) count)) e).0
passes_from test first (suc count) (suc k) e small =
    let same : first + suc k ≡ suc first + k = omega arith in
    ap test same ∙ passes_from test (suc first) count k (and_parts (test first) (every test (numbers_from (suc first) count)) e).1 (omega arith)

pub passes_below : (test : ℕ → Bool) (count k : ℕ) → every test (below count) ≡ true → k < count → test k ≡ true
passes_below test count k e small = let same : k ≡ 0 + k = omega arith in ap test same ∙ passes_from test 0 count k e small

pub same_value_refl : (v : Value) → same_value v v ≡ true
same_value_refl v = (same_value-Decides v v).1 refl

pub same_values_refl : (vs : List Value) → same_values vs vs ≡ true
same_values_refl [] = refl
same_values_refl (v ∷ vs) = and_from (same_value v v) (same_values vs vs) (same_value_refl v) (same_values_refl vs)

pub same_values_where : (us vs : List Value) → us ≡ vs → same_values us vs ≡ true
same_values_where us vs e = let P : List Value → Type 0 = λ ws. same_values us ws ≡ true in subst P e (same_values_refl us)

pub front_append : (us vs : List Value) → is_front us (us ++ vs) ≡ true
front_append [] vs = refl
front_append (u ∷ us) vs = and_from (same_value u u) (is_front us (us ++ vs)) (same_value_refl u) (front_append us vs)

pub front_refl : (us : List Value) → is_front us us ≡ true
front_refl [] = refl
front_refl (u ∷ us) = and_from (same_value u u) (is_front us us) (same_value_refl u) (front_refl us)

-- what begins the front of a list begins the list
pub front_of_front : (us vs ws : List Value) → is_front (us ++ vs) ws ≡ true → is_front us ws ≡ true
front_of_front [] vs ws e = refl
front_of_front (u ∷ us) vs [] e = cc
front_of_front (u ∷ us) vs (w ∷ ws) e =
    let both = and_parts (same_value u w) (is_front (us ++ vs) ws) e in
    and_from (same_value u w) (is_front us ws) both.0 (front_of_front us vs ws both.1)

-- a list without its last part is its first part
pub front_without : (us vs : List Value) → take (length (us ++ vs) - length vs) (us ++ vs) ≡ us
front_without us vs =
    let e : length (us ++ vs) - length vs ≡ length us = omega (arith, length-append us vs) in
    rw e (take-append_seam us vs)

-- a weaker test passes where a stronger one does
pub every_weaker : {A : Type 0} (f g : A → Bool) (xs : List A) → ((x : A) → f x ≡ true → g x ≡ true) → every f xs ≡ true → every g xs ≡ true
every_weaker f g [] h e = refl
every_weaker f g (x ∷ xs) h e =
    let both = and_parts (f x) (every f xs) e in
    and_from (g x) (every g xs) (h x both.0) (every_weaker f g xs h both.1)

pub every_weaker_from : (f g : ℕ → Bool) (first count : ℕ) → ((k : ℕ) → k < first + count → f k ≡ true → g k ≡ true)
    → every f (numbers_from first count) ≡ true → every g (numbers_from first count) ≡ true
every_weaker_from f g first zero h e = refl
every_weaker_from f g first (suc count) h e =
    let both = and_parts (f first) (every f (numbers_from (suc first) count)) e in
    and_from (g first) (every g (numbers_from (suc first) count))
    (h first (omega arith) both.0)
    (every_weaker_from f g (suc first) count (λ k small. h k (omega arith)) both.1)

pub every_weaker_below : (f g : ℕ → Bool) (count : ℕ) → ((k : ℕ) → k < count → f k ≡ true → g k ≡ true)
    → every f (below count) ≡ true → every g (below count) ≡ true
every_weaker_below f g count h e = every_weaker_from f g 0 count (λ k small. h k (omega arith)) e

pub or_weaker : (a b c d : Bool) → (a ≡ true → c ≡ true) → (b ≡ true → d ≡ true) → (a || b) ≡ true → (c || d) ≡ true
or_weaker true b true d ha hb e = refl
or_weaker true b false d ha hb e = let wrong : false ≡ true = ha refl in cc
or_weaker false b true d ha hb e = refl
or_weaker false b false d ha hb e = hb e

pub and_weaker : (a b c d : Bool) → (a ≡ true → c ≡ true) → (b ≡ true → d ≡ true) → (a && b) ≡ true → (c && d) ≡ true
and_weaker a b c d ha hb e =
    let both = and_parts a b e in
    and_from c d (ha both.0) (hb both.1)

pub some_weaker_from : (f g : ℕ → Bool) (first count : ℕ) → ((k : ℕ) → k < first + count → f k ≡ true → g k ≡ true)
    → some f (numbers_from first count) ≡ true → some g (numbers_from first count) ≡ true
some_weaker_from f g first zero h e = cc
some_weaker_from f g first (suc count) h e =
    or_weaker (f first) (some f (numbers_from (suc first) count)) (g first) (some g (numbers_from (suc first) count))
    (h first (omega arith))
    (some_weaker_from f g (suc first) count (λ k small. h k (omega arith)))
    e

pub some_weaker_below : (f g : ℕ → Bool) (count : ℕ) → ((k : ℕ) → k < count → f k ≡ true → g k ≡ true)
    → some f (below count) ≡ true → some g (below count) ≡ true
some_weaker_below f g count h e = some_weaker_from f g 0 count (λ k small. h k (omega arith)) e

-- nothing is left of a list without as many as it has
pub drop_all : (vs : List Value) → is_empty (drop (length vs) vs) ≡ true
drop_all [] = refl
drop_all (v ∷ vs) = drop_all vs

-- one more number
pub numbers_more : (first count : ℕ) → numbers_from first (suc count) ≡ numbers_from first count ++ (first + count) ∷ []
numbers_more first zero = ap (λ (n : ℕ). n ∷ []) (omega arith)
numbers_more first (suc count) =
    let e : suc first + count ≡ first + suc count = omega arith in
    ap (λ (ns : List ℕ). first ∷ ns) (numbers_more (suc first) count ∙ ap (λ (n : ℕ). numbers_from (suc first) count ++ n ∷ []) e)

pub below_more : (n : ℕ) → below (n + 1) ≡ below n ++ n ∷ []
below_more n =
    let next : n + 1 ≡ suc n = omega arith in
    let last : 0 + n ≡ n = omega arith in
    ap below next ∙ numbers_more 0 n ∙ ap (λ (k : ℕ). below n ++ k ∷ []) last

pub length_numbers : (first count : ℕ) → length (numbers_from first count) ≡ count
length_numbers first zero = refl
length_numbers first (suc count) = ap suc (length_numbers (suc first) count)
