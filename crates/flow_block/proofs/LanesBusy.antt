-- How many tickets are out when a job begins, when a result comes back, and when results come out.
use Rattle.std.proofs.Common.{◌≡◌, ℕ, zero, suc, ◌+◌, ◌≤◌, Bool, true, cond, List, [], ◌∷◌, ◌++◌, length, drop, set, get_or, Some, None, is_none, Result, Ok, Err, refl, ap, ◌∙◌, arith}
use Rattle.std.proofs.lemmas.List.Recursion.{is_count_by}
use Rattle.std.proofs.lemmas.List.Sums.{count_by-le-length}
use Rattle.flow_value.specs.declared.value.Value.{Value}
use Rattle.flow_block.specs.Jobs.{Slot, no_slot, out_count}
use Rattle.flow_block.specs.JobsOut.{is_front_made}

pub out_at_most : (slots : List Slot) → out_count slots ≤ length slots
out_at_most slots = count_by-le-length (λ (slot : Slot). is_none slot) slots

-- counted from the first on
counted : List Slot → ℕ
counted [] = 0
counted (slot ∷ slots) = cond (is_none slot) (1 + counted slots) (counted slots)

counted_is : (slots : List Slot) → counted slots ≡ out_count slots
unfolding counted
counted_is slots = is_count_by counted (λ (slot : Slot). is_none slot) refl (λ slot slots. refl) slots

out_first : (slot : Slot) (slots : List Slot) → out_count (slot ∷ slots) ≡ cond (is_none slot) 1 0 + out_count slots
unfolding counted
out_first None slots =
    let all : 1 + counted slots ≡ out_count (None ∷ slots) = counted_is (None ∷ slots) in
    let rest = counted_is slots in
    omega (arith, all, rest)
out_first (Some made) slots =
    let all : counted slots ≡ out_count (Some made ∷ slots) = counted_is (Some made ∷ slots) in
    let rest = counted_is slots in
    omega (arith, all, rest)

-- one more
pub out_begun : (slots : List Slot) → out_count (slots ++ None ∷ []) ≡ out_count slots + 1
out_begun [] = omega arith
out_begun (slot ∷ slots) =
    let first = out_first slot slots in
    let rest = out_begun slots in
    let all : cond (is_none slot) 1 0 + out_count (slots ++ None ∷ []) ≡ out_count (slot ∷ slots) + 1 =
    omega (arith, first, rest) in
    out_first slot (slots ++ None ∷ []) ∙ all

-- one less, where it was out
pub out_back : (slots : List Slot) (k : ℕ) (made : Result (List Value) ℕ) → is_none (get_or slots k no_slot) ≡ true
    → out_count (set slots k (Some made)) + 1 ≡ out_count slots
out_back [] k made out = absurd (cc)
out_back (slot ∷ slots) zero made out =
    let new : out_count (set (slot ∷ slots) 0 (Some made)) ≡ 0 + out_count slots = out_first (Some made) slots in
    let first : out_count (slot ∷ slots) ≡ 1 + out_count slots =
    out_first slot slots ∙ ap (λ (b : Bool). cond b 1 0 + out_count slots) out in
    omega (arith, new, first)
out_back (slot ∷ slots) (suc k) made out =
    let new : out_count (set (slot ∷ slots) (suc k) (Some made)) ≡ cond (is_none slot) 1 0 + out_count (set slots k (Some made)) =
    out_first slot (set slots k (Some made)) in
    let first = out_first slot slots in
    let rest = out_back slots k made out in
    omega (arith, new, first, rest)

-- no more, whatever was there
pub out_set : (slots : List Slot) (k : ℕ) (made : Result (List Value) ℕ) → out_count (set slots k (Some made)) ≤ out_count slots
out_set [] k made = omega arith
out_set (slot ∷ slots) zero made =
    let new : out_count (set (slot ∷ slots) 0 (Some made)) ≡ 0 + out_count slots = out_first (Some made) slots in
    let first = out_first slot slots in
    omega (arith, new, first)
out_set (slot ∷ slots) (suc k) made =
    let new : out_count (set (slot ∷ slots) (suc k) (Some made)) ≡ cond (is_none slot) 1 0 + out_count (set slots k (Some made)) =
    out_first slot (set slots k (Some made)) in
    let first = out_first slot slots in
    let rest = out_set slots k made in
    omega (arith, new, first, rest)

-- and no more behind the first; as many, where its result was there
pub out_rest : (slots : List Slot) → out_count (drop 1 slots) ≤ out_count slots
out_rest [] = omega arith
out_rest (slot ∷ slots) =
    let first = out_first slot slots in
    let behind : out_count (drop 1 (slot ∷ slots)) ≡ out_count slots = refl in
    omega (arith, first, behind)

pub out_behind : (slots : List Slot) → is_front_made slots ≡ true → out_count (drop 1 slots) ≡ out_count slots
out_behind [] made = absurd (cc)
out_behind (None ∷ slots) made = absurd (cc)
out_behind (Some (Err number) ∷ slots) made = absurd (cc)
out_behind (Some (Ok values) ∷ slots) made = omega arith
