-- The next value of a list, and lists that are cut.
use Rattle.std.proofs.Common.{◌≡◌, ℕ, zero, suc, ◌+◌, ◌<◌, ◌≤◌, Bool, true, false, List, [], ◌∷◌, ◌++◌, length, take, drop, Option, Some, None, is_none, is_some, refl, ap, sym, ◌∙◌, subst, arith}
use Rattle.std.proofs.lemmas.Bool.{and_from, and_parts}
use Rattle.std.proofs.lemmas.List.{take-append-drop}
use Rattle.flow_value.specs.declared.value.Value.{Value}
use Rattle.flow_value.specs.Same.{same_value, same_value-Decides}
use Rattle.flow_link.specs.Lists.{is_front}
use Rattle.flow_link.proofs.ListTests.{front_append}
use Rattle.flow_intake.specs.Calls.{first_of}

-- the value that comes next is there, and is the last of those that were given once it is
pub record NextOf (values : List Value) (n : ℕ) : Type 0 where
  pub value : Value
  pub first : first_of (drop n values) ≡ Some value
  pub rest : drop n values ≡ value ∷ drop (n + 1) values
  pub more : take (n + 1) values ≡ take n values ++ value ∷ []

pub next_of : (values : List Value) (n : ℕ) → n < length values → NextOf values n
next_of [] n small = absurd (omega arith)
next_of (value ∷ values) zero small = record { value = value; first = refl; rest = refl; more = refl }
next_of (value ∷ values) (suc n) small =
    let next = next_of values n (omega arith) in
    let one : suc n + 1 ≡ suc (n + 1) = omega arith in
    record {
      value = next.value;
      first = next.first;
      rest = next.rest ∙ ap (λ (m : ℕ). next.value ∷ drop m (value ∷ values)) (sym one);
      more = ap (λ (m : ℕ). take m (value ∷ values)) one ∙ ap (λ (vs : List Value). value ∷ vs) next.more;
    }

pub there : (values : List Value) (n : ℕ) (value : Value) → first_of (drop n values) ≡ Some value → n < length values
there [] zero value e = absurd (cc)
there [] (suc n) value e = absurd (cc)
there (v ∷ vs) zero value e = omega arith
there (v ∷ vs) (suc n) value e = let low = there vs n value e in omega arith

pub nothing_left : (values : List Value) → first_of values ≡ None → values ≡ []
nothing_left [] e = refl
nothing_left (v ∷ vs) e = absurd (cc)

pub take_twice : (n : ℕ) (values : List Value) → take n (take n values) ≡ take n values
take_twice zero [] = refl
take_twice zero (v ∷ vs) = refl
take_twice (suc n) [] = refl
take_twice (suc n) (v ∷ vs) = ap (λ (rest : List Value). v ∷ rest) (take_twice n vs)

-- a first part of a longer first part
pub take_less : (values : List Value) (n m : ℕ) → n ≤ m → take n (take m values) ≡ take n values
take_less [] zero zero less = refl
take_less [] zero (suc m) less = refl
take_less [] (suc n) zero less = refl
take_less [] (suc n) (suc m) less = refl
take_less (v ∷ vs) zero zero less = refl
take_less (v ∷ vs) zero (suc m) less = refl
take_less (v ∷ vs) (suc n) zero less = absurd (omega arith)
take_less (v ∷ vs) (suc n) (suc m) less = ap (λ (rest : List Value). v ∷ rest) (take_less vs n m (omega arith))

-- a first part of a list begins it
pub front_taken : (values : List Value) (n : ℕ) → is_front (take n values) values ≡ true
front_taken values n =
    let P : List Value → Type 0 = λ all. is_front (take n values) all ≡ true in
    subst P (take-append-drop n values) (front_append (take n values) (drop n values))

same_through : (u v w : Value) → same_value u v ≡ true → same_value v w ≡ true → same_value u w ≡ true
same_through u v w e f = (same_value-Decides u w).1 ((same_value-Decides u v).0 e ∙ (same_value-Decides v w).0 f)

-- what begins a list begins what that list begins
pub front_through : (us vs ws : List Value) → is_front us vs ≡ true → is_front vs ws ≡ true → is_front us ws ≡ true
front_through [] vs ws e f = refl
front_through (u ∷ us) [] ws e f = absurd (cc)
front_through (u ∷ us) (v ∷ vs) [] e f = absurd (cc)
front_through (u ∷ us) (v ∷ vs) (w ∷ ws) e f =
    let one = and_parts (same_value u v) (is_front us vs) e in
    let two = and_parts (same_value v w) (is_front vs ws) f in
    and_from (same_value u w) (is_front us ws) (same_through u v w one.0 two.0) (front_through us vs ws one.1 two.1)

-- and one that is not longer begins each first part that is as long
pub front_within : (us vs : List Value) (n : ℕ) → is_front us vs ≡ true → length us ≤ n → is_front us (take n vs) ≡ true
front_within [] vs n e short = refl
front_within (u ∷ us) vs zero e short = absurd (omega arith)
front_within (u ∷ us) [] (suc n) e short = absurd (cc)
front_within (u ∷ us) (v ∷ vs) (suc n) e short =
    let both = and_parts (same_value u v) (is_front us vs) e in
    and_from (same_value u v) (is_front us (take n vs)) both.0 (front_within us vs n both.1 (omega arith))

pub taken_short : (values : List Value) (n : ℕ) → length (take n values) ≤ n
taken_short [] zero = omega arith
taken_short [] (suc n) = omega arith
taken_short (v ∷ vs) zero = omega arith
taken_short (v ∷ vs) (suc n) = let low = taken_short vs n in omega arith

pub not_so : (x : Bool) → (x ≡ true → ⊥) → x ≡ false
not_so true never = absurd (never refl)
not_so false never = refl

pub none_is : {A : Type 0} (option : Option A) → is_none option ≡ true → option ≡ None
none_is None e = refl
none_is (Some x) e = absurd (cc)

pub none_there : {A : Type 0} (option : Option A) → option ≡ None → is_some option ≡ true → ⊥
none_there None e some = cc
none_there (Some x) e some = cc
