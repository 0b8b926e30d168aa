-- The result of a message comes back: where it is the next one, what was counted for it comes out, and else nothing does.
use Rattle.std.proofs.Common.{◌≡◌, ℕ, ◌+◌, ◌-◌, ◌^◌, ◌==◌, ltb, leb, not, ◌&&◌, min, Bool, true, false, List, [], ◌∷◌, length, drop, set, get_or, Some, is_none, Result, ap, sym, ◌∙◌, arith}
use Rattle.std.proofs.lemmas.Bool.{and_parts}
use Rattle.std.proofs.lemmas.Bool.Decides.{nat_tests}
use Rattle.flow_value.specs.declared.value.Value.{Value}
use Rattle.flow_outlet.specs.Outlet.{OutletState, lacks_ids, lacks_ids_for, sets_aside}
use Rattle.flow_block.specs.Block.{BlockState, with_jobs, yields_all}
use Rattle.flow_block.specs.Jobs.{JobsState, Slot, no_slot, place_of, is_out, brings, comes_out}
use Rattle.flow_block.specs.JobsOut.{all_out, uses_aside, puts_rest}

-- Where it is the next one

at_first : (slots : List Slot) (place : ℕ) (slot : Slot) → place ≡ 0 → is_none (get_or slots place no_slot) ≡ true
    → set slots place slot ≡ slot ∷ drop 1 slots
at_first [] place slot first out = absurd (cc)
at_first (old ∷ slots) place slot first out = ap (λ (place : ℕ). set (old ∷ slots) place slot) first

pub first_back : (ticket : ℕ) (made : Result (List Value) ℕ) (jobs : JobsState) → is_out ticket jobs ≡ true
    → ticket ≡ jobs.first → (brings ticket made jobs).slots ≡ Some made ∷ drop 1 jobs.slots
first_back ticket made jobs out first =
    let both = and_parts (leb jobs.first ticket) (is_none (get_or jobs.slots (place_of ticket jobs) no_slot)) out in
    at_first jobs.slots (place_of ticket jobs) (Some made) (omega (arith, first)) both.1

-- What is counted

lacks_by : (n count : ℕ) (o : OutletState) → count ≡ min n (2 ^ 64 - 1)
    → lacks_ids_for count o ≡ (not (n == 0) && ltb (2 ^ 59) (o.next + length o.left + o.spare + n))
lacks_by n count o is = grind (arith, nat_tests)

pub lacks_same : (values : List Value) (count : ℕ) (o : OutletState) → count ≡ min (length values) (2 ^ 64 - 1)
    → lacks_ids_for count o ≡ lacks_ids values o
lacks_same [] count o is = lacks_by 0 count o is
lacks_same (value ∷ values) count o is =
    let some : (length (value ∷ values) == 0) ≡ false = grind (arith, nat_tests) in
    lacks_by (length (value ∷ values)) count o is
    ∙ ap (λ (none : Bool). not none && ltb (2 ^ 59) (o.next + length o.left + o.spare + length (value ∷ values))) some

-- where ids are left, all that comes out was counted, and it is just what was set aside
all_counted : (n count : ℕ) (o : OutletState) → count ≡ min n (2 ^ 64 - 1) → lacks_ids_for count o ≡ false → count ≡ n
all_counted n count o is has = grind (arith, nat_tests)

pub all_used : (ticket : ℕ) (made : Result (List Value) ℕ) (block : BlockState) (count : ℕ) → is_out ticket block.jobs ≡ true
    → ticket ≡ block.jobs.first → count ≡ min (length (comes_out (Some made ∷ drop 1 block.jobs.slots))) (2 ^ 64 - 1)
    → lacks_ids_for count block.exits ≡ false
    → puts_rest (brings ticket made block.jobs).slots
    (with_jobs (brings ticket made) (record block { exits = sets_aside count block.exits }))
    ≡ all_out ticket made block
all_used ticket made block count out first is has =
    let slots = (brings ticket made block.jobs).slots in
    let back = with_jobs (brings ticket made) block in
    let aside = with_jobs (brings ticket made) (record block { exits = sets_aside count block.exits }) in
    let counted : length (comes_out slots) ≡ count =
    ap (λ (slots : List Slot). length (comes_out slots)) (first_back ticket made block.jobs out first)
    ∙ sym (all_counted (length (comes_out (Some made ∷ drop 1 block.jobs.slots))) count block.exits is has) in
    let same : block.exits.spare + count - count ≡ block.exits.spare = omega arith in
    ap (λ (count : ℕ). yields_all slots (uses_aside count aside)) counted
    ∙ ap (λ (spare : ℕ). yields_all slots (record back { exits = record back.exits { spare = spare } })) same
