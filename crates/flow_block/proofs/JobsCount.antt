-- How many values come out, counted from one place of the slots on.
use Rattle.std.proofs.Common.{◌≡◌, ℕ, ◌+◌, ◌<◌, true, false, List, [], ◌∷◌, length, drop, get_or, Some, None, Ok, Err, refl, ap, sym, ◌∙◌, arith, length-append}
use Rattle.std.proofs.lemmas.List.{drop_more}
use Rattle.flow_block.specs.Jobs.{Slot, comes_out}
use Rattle.flow_block.specs.JobsOut.{is_front_made}

stops : (slot : Slot) (slots : List Slot) → is_front_made (slot ∷ []) ≡ false → length (comes_out (slot ∷ slots)) ≡ 0
stops None slots none = refl
stops (Some (Err number)) slots none = refl
stops (Some (Ok values)) slots none = absurd (cc)

goes_on : (slot : Slot) (slots : List Slot) → is_front_made (slot ∷ []) ≡ true
    → length (comes_out (slot ∷ slots)) ≡ length (comes_out (slot ∷ [])) + length (comes_out slots)
goes_on None slots made = absurd (cc)
goes_on (Some (Err number)) slots made = absurd (cc)
goes_on (Some (Ok values)) slots made = omega (arith, length-append values (comes_out slots), length-append values [])

from_here : (slots : List Slot) (place : ℕ) (slot : Slot) → place < length slots → slot ≡ get_or slots place slot
    → length (comes_out (drop place slots)) ≡ length (comes_out (slot ∷ drop (place + 1) slots))
from_here slots place slot small is =
    ap (λ (slots : List Slot). length (comes_out slots)) (drop_more slots place slot small)
    ∙ ap (λ (slot : Slot). length (comes_out (slot ∷ drop (place + 1) slots))) (sym is)

pub stops_here : (slots : List Slot) (place : ℕ) (slot : Slot) → place < length slots → slot ≡ get_or slots place slot
    → is_front_made (slot ∷ []) ≡ false → length (comes_out (drop place slots)) ≡ 0
stops_here slots place slot small is none =
    from_here slots place slot small is ∙ stops slot (drop (place + 1) slots) none

pub goes_on_here : (slots : List Slot) (place : ℕ) (slot : Slot) → place < length slots → slot ≡ get_or slots place slot
    → is_front_made (slot ∷ []) ≡ true
    → length (comes_out (drop place slots)) ≡ length (comes_out (slot ∷ [])) + length (comes_out (drop (place + 1) slots))
goes_on_here slots place slot small is made =
    from_here slots place slot small is ∙ goes_on slot (drop (place + 1) slots) made
