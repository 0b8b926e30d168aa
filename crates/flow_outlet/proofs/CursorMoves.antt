-- Where one end changes, the first place that the head does not go past moves as the outlet moves it, and counts change by one.
use Rattle.std.proofs.Common.{◌≡◌, ℕ, ◌+◌, ◌<◌, ◌≤◌, suc, zero, ltb, cond, Bool, true, false, List, [], ◌∷◌, length, set, drop, Option, refl, ap, arith}
use Rattle.std.proofs.lemmas.Bool.Decides.{nat_tests}
use Rattle.flow_value.specs.declared.value.Value.{Value}
use Rattle.flow_link.specs.declared.stage.SourceStage.{SourceStage}
use Rattle.flow_link.proofs.ListTests.{at_most_one}
use Rattle.flow_outlet.specs.declared.ends.OutEnd.{OutEnd}
use Rattle.flow_outlet.specs.End.{is_passed, place_in, cursor_after, end_in, count_at}
use Rattle.flow_outlet.specs.Outlet.{recounted}

at_first : (now before : Bool) (rest : ℕ)
    → cond (ltb (cond before (rest + 1) 0) 0) (cond before (rest + 1) 0)
    (cond now (cond (ltb 0 (cond before (rest + 1) 0)) (cond before (rest + 1) 0) (0 + 1 + rest)) 0)
    ≡ cond now (rest + 1) 0
at_first true true rest = grind (arith, nat_tests)
at_first true false rest = grind (arith, nat_tests)
at_first false true rest = grind (arith, nat_tests)
at_first false false rest = grind (arith, nat_tests)

further : (now before : Bool) (k c rest after : ℕ)
    → cond (ltb c k) c (cond now (cond (ltb k c) c (k + 1 + rest)) k) ≡ after
    → cond (ltb (cond before (c + 1) 0) (suc k)) (cond before (c + 1) 0)
    (cond now (cond (ltb (suc k) (cond before (c + 1) 0)) (cond before (c + 1) 0) (suc (k + 1) + rest)) (suc k))
    ≡ cond before (after + 1) 0
further true true k c rest after e = grind (arith, nat_tests)
further true false k c rest after e = grind (arith, nat_tests)
further false true k c rest after e = grind (arith, nat_tests)
further false false k c rest after e = grind (arith, nat_tests)

pub cursor_is : (next : ℕ) (head : Option Value) (ends : List OutEnd) (k : ℕ) (end : OutEnd) → k < length ends
    → cursor_after k (place_in next head ends) next head (set ends k end) ≡ place_in next head (set ends k end)
cursor_is next head [] k end l = absurd (omega arith)
cursor_is next head (e ∷ es) zero end l =
    at_first (is_passed next head end) (is_passed next head e) (place_in next head es)
cursor_is next head (e ∷ es) (suc k) end l =
    let here : suc k + 1 ≡ suc (k + 1) = omega arith in
    rw here (further (is_passed next head (end_in (set es k end) k)) (is_passed next head e) k (place_in next head es)
    (place_in next head (drop (k + 1) (set es k end))) _ (cursor_is next head es k end (omega arith)))

recount_first : (was now : Bool) (rest : ℕ) → recounted (cond was 1 0 + rest) was now ≡ cond now 1 0 + rest
recount_first true true rest = refl
recount_first true false rest = grind arith
recount_first false true rest = grind arith
recount_first false false rest = refl

recount_more : (was now : Bool) (more count after : ℕ) → (was ≡ true → 0 < count) → recounted count was now ≡ after
    → recounted (more + count) was now ≡ more + after
recount_more true true more count after some e = ap (λ n. more + n) e
recount_more true false more count after some e = let here : 0 < count = some refl in omega arith
recount_more false true more count after some e = omega arith
recount_more false false more count after some e = ap (λ n. more + n) e

first_counts : (was : Bool) (rest : ℕ) → was ≡ true → 0 < cond was 1 0 + rest
first_counts true rest e = omega arith
first_counts false rest e = cc

-- where an end counts, the count is not 0
pub count_some : (test : SourceStage → Bool) (ends : List OutEnd) (k : ℕ) → k < length ends
    → test (end_in ends k).stage ≡ true → 0 < count_at test ends
count_some test [] k l e = absurd (omega arith)
count_some test (x ∷ xs) zero l e = first_counts (test x.stage) (count_at test xs) e
count_some test (x ∷ xs) (suc k) l e =
    let rest : 0 < count_at test xs = count_some test xs k (omega arith) e in
    omega arith

-- no more ends count than there are
pub count_below : (test : SourceStage → Bool) (ends : List OutEnd) → count_at test ends ≤ length ends
count_below test [] = omega arith
count_below test (x ∷ xs) = omega (arith, count_below test xs, at_most_one (test x.stage))

pub count_is : (test : SourceStage → Bool) (ends : List OutEnd) (k : ℕ) (end : OutEnd) → k < length ends
    → recounted (count_at test ends) (test (end_in ends k).stage) (test end.stage) ≡ count_at test (set ends k end)
count_is test [] k end l = absurd (omega arith)
count_is test (x ∷ xs) zero end l = recount_first (test x.stage) (test end.stage) (count_at test xs)
count_is test (x ∷ xs) (suc k) end l =
    recount_more (test (end_in xs k).stage) (test end.stage) (cond (test x.stage) 1 0) (count_at test xs) _
    (count_some test xs k (omega arith)) (count_is test xs k end (omega arith))
