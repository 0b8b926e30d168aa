-- Parts of a network are taken apart, one by one, in the order of their numbers.
use Rattle.std.proofs.Common.{◌≡◌, ℕ, zero, suc, ◌+◌, ◌-◌, ◌<◌, ◌≤◌, List, [], ◌∷◌, ◌++◌, length, map, get_or, take, drop, sym, ap, ◌∙◌, subst, arith, ⊎_elim}
use Rattle.std.proofs.lemmas.Bool.{cases_lt}
use Rattle.std.proofs.lemmas.List.{map-append, length-map, get_or_append_left, get_or_push, length-map}
use Rattle.flow_link.specs.Lists.{numbers_from, below}
use Rattle.flow_link.proofs.ListTests.{below_more, length_numbers}
use Rattle.flow_task.proofs.Places.{all_same}

-- the first that is left
pub first_here : {A : Type 0} (old rest : List A) (i : ℕ) (x : A) → x ∷ rest ≡ drop i old → rest ≡ drop (i + 1) old
first_here [] rest zero x e = absurd (cc)
first_here [] rest (suc i) x e = absurd (cc)
first_here (y ∷ old) rest zero x e = cc
first_here (y ∷ old) rest (suc i) x e =
    let more : suc (i + 1) ≡ suc i + 1 = omega arith in
    first_here old rest i x e ∙ ap (λ (n : ℕ). drop n (y ∷ old)) more

pub first_next : {A : Type 0} (old rest : List A) (i : ℕ) (x : A) → x ∷ rest ≡ drop i old → take (i + 1) old ≡ take i old ++ x ∷ []
first_next [] rest zero x e = absurd (cc)
first_next [] rest (suc i) x e = absurd (cc)
first_next (y ∷ old) rest zero x e = cc
first_next (y ∷ old) rest (suc i) x e =
    let more : suc i + 1 ≡ suc (i + 1) = omega arith in
    ap (λ (n : ℕ). take n (y ∷ old)) more ∙ ap (λ (ys : List _). y ∷ ys) (first_next old rest i x e)

-- its number, and those of the others
pub number_here : {A : Type 0} (number : A → ℕ) (rest : List A) (x : A) (i n : ℕ) → map number (x ∷ rest) ≡ numbers_from i n
    → (number x ≡ i) × (map number rest ≡ numbers_from (i + 1) (n - 1))
number_here number rest x i zero e = absurd (cc)
number_here number rest x i (suc n) e =
    let one : suc i ≡ i + 1 = omega arith in
    let less : n ≡ suc n - 1 = omega arith in
    let tail : map number rest ≡ numbers_from (suc i) n = cc in
    ((cc), tail ∙ ap (λ (k : ℕ). numbers_from k n) one ∙ ap (numbers_from (i + 1)) less)

-- how many they are
pub count_left : {A : Type 0} (number : A → ℕ) (xs : List A) (i n : ℕ) → map number xs ≡ numbers_from i n → length xs ≡ n
count_left number xs i n e = sym (length-map xs number) ∙ ap length e ∙ length_numbers i n

-- what is known of it, of its board and by its number
pub known_there : {B : Type 0} (P : B → ℕ → Type 0) (a b : B) (m n : ℕ) → a ≡ b → m ≡ n → P a m → P b n
known_there P a b m n same is here = subst (λ x. P x n) same (subst (P a) is here)

-- one more element of what is told by places
pub viewed_more : {E V : Type 0} (view : E → V) (say : ℕ → V) (k : ℕ) (xs : List E) (x : E) → map view xs ≡ map say (below k) → view x ≡ say k
    → map view (xs ++ x ∷ []) ≡ map say (below (k + 1))
viewed_more view say k xs x are is =
    map-append view xs (x ∷ []) ∙ ap (λ vs. vs ++ view x ∷ []) are ∙ ap (λ v. map say (below k) ++ v ∷ []) is
    ∙ sym (map-append say (below k) (k ∷ [])) ∙ ap (map say) (sym (below_more k))

-- one more element of what is said by places of another list, which grows with it
pub said_more : {E V N : Type 0} (known : E → V) (say : N → ℕ → V) (i : ℕ) (ends : List E) (end : E) (nodes : List N) (node d : N)
    → length nodes ≡ i → map known ends ≡ map (λ b. say (get_or nodes b d) b) (below i) → known end ≡ say node i
    → map known (ends ++ end ∷ []) ≡ map (λ b. say (get_or (nodes ++ node ∷ []) b d) b) (below (i + 1))
said_more {V = V} known say i ends end nodes node d count know is =
    let old : ℕ → V = λ b. say (get_or nodes b d) b in
    let new : ℕ → V = λ b. say (get_or (nodes ++ node ∷ []) b d) b in
    map-append known ends (end ∷ [])
    ∙ ap (λ (xs : List V). xs ++ known end ∷ []) (know ∙ all_same old new i
    (λ b low. ap (λ x. say x b) (get_or_append_left nodes (node ∷ []) d b (omega (arith, low, count)))))
    ∙ ap (λ (v : V). map new (below i) ++ v ∷ []) (is ∙ sym (ap (λ x. say x i) (get_or_push nodes node d i count)))
    ∙ sym (map-append new (below i) (i ∷ []))
    ∙ ap (map new) (sym (below_more i))

-- what holds at each place holds with one more
pub holds_more : {N : Type 0} (P : ℕ → N → Type 0) (i : ℕ) (nodes : List N) (node d : N) → length nodes ≡ i
    → ((b : ℕ) → b < i → P b (get_or nodes b d)) → P i node → (b : ℕ) → b < i + 1 → P b (get_or (nodes ++ node ∷ []) b d)
holds_more P i nodes node d count before here b low =
    ⊎_elim (λ (less : b < i). subst (P b) (sym (get_or_append_left nodes (node ∷ []) d b (omega (arith, less, count)))) (before b less))
    (λ (same : i ≤ b).
    let is : i ≡ b = omega (arith, same, low) in
    subst (λ (k : ℕ). P k (get_or (nodes ++ node ∷ []) k d)) is (subst (P i) (sym (get_or_push nodes node d i count)) here))
    (cases_lt b i)
