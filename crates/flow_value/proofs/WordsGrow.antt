-- How the words of the steps grow by one more value.
use Rattle.std.proofs.Common.{◌≡◌, ℕ, zero, suc, ◌+◌, ◌<◌, ◌==◌, List, [], ◌∷◌, ◌++◌, length, get_or, Bool, true, Option, Some, None, refl, sym, ap, ◌∙◌, arith, ℤ, pos, ◌+ℤ◌}
use Rattle.std.specs.Option.{option_map}
use Rattle.std.proofs.lemmas.Bool.{eqb-true, eq-eqb}
use Rattle.std.proofs.lemmas.List.FromFn.{map-range_with_len_more}
use Rattle.std.proofs.lemmas.List.Sums.{fold_push}
use Rattle.flow_value.specs.Step.{numbers_of, total_of, ints_below}
use Rattle.flow_value.specs.declared.value.Value.{Value}
use Rattle.flow_value.specs.declared.value.Value.TheVariants.{Int, Text, Row}

pub empty_test : {A : Type 0} (xs : List A) (n : ℕ) (b : Bool) → n ≡ length xs → b ≡ (n == 0) → (b ≡ true → xs ≡ []) × (xs ≡ [] → b ≡ true)
empty_test [] n b len test = (λ e. refl, λ e. test ∙ eq-eqb n 0 len)
empty_test (x ∷ xs) n b len test =
    (λ e. let none : n ≡ 0 = eqb-true n 0 (sym test ∙ e) in absurd (omega arith), λ e. cc)

-- one more number in a row of numbers
numbers_of-first : (m n : ℤ) (o : Option (List ℤ)) (ns : List ℤ) (more : Option (List ℤ))
    → option_map (λ xs. m ∷ xs) o ≡ Some ns
    → ((xs : List ℤ) → o ≡ Some xs → more ≡ Some (xs ++ n ∷ []))
    → option_map (λ xs. m ∷ xs) more ≡ Some (ns ++ n ∷ [])
numbers_of-first m n None ns more e rest = cc
numbers_of-first m n (Some xs) ns more e rest =
    let same : ns ≡ m ∷ xs = cc in
    ap (option_map (λ ys. m ∷ ys)) (rest xs refl) ∙ ap (λ ys. Some (ys ++ n ∷ [])) (sym same)

pub numbers_of-push : (vs : List Value) (n : ℤ) (ns : List ℤ) → numbers_of vs ≡ Some ns → numbers_of (vs ++ Int n ∷ []) ≡ Some (ns ++ n ∷ [])
numbers_of-push [] n ns e = let none : ns ≡ [] = cc in ap (λ xs. Some (xs ++ n ∷ [])) (sym none)
numbers_of-push (Int m ∷ vs) n ns e =
    numbers_of-first m n (numbers_of vs) ns (numbers_of (vs ++ Int n ∷ [])) e (λ xs. numbers_of-push vs n xs)
numbers_of-push (Text t ∷ vs) n ns e = cc
numbers_of-push (Row r ∷ vs) n ns e = cc

-- a value that is no number: the row is none of numbers
abbrev IsOther : Value → Type 0
IsOther v = (n : ℤ) → v ≡ Int n → ⊥

pub numbers_of-other : (vs : List Value) (i : ℕ) (v : Value) → i < length vs → v ≡ get_or vs i v → IsOther v → numbers_of vs ≡ None
numbers_of-other [] i v within at other = absurd (omega arith)
numbers_of-other (Int n ∷ vs) zero v within at other = absurd (other n at)
numbers_of-other (Int n ∷ vs) (suc i) v within at other =
    ap (option_map (λ ns. n ∷ ns)) (numbers_of-other vs i v (omega arith) at other)
numbers_of-other (Text t ∷ vs) i v within at other = refl
numbers_of-other (Row r ∷ vs) i v within at other = refl

pub total_of-push : (ns : List ℤ) (n : ℤ) → total_of (ns ++ n ∷ []) ≡ total_of ns +ℤ n
total_of-push ns n = fold_push ◌+ℤ◌ (pos 0) ns n

pub ints_below-push : (n : ℕ) → ints_below n ++ Int (pos n) ∷ [] ≡ ints_below (n + 1)
ints_below-push n = sym (map-range_with_len_more (λ i. Int (pos i)) 0 n n (omega arith))
