-- Counts of ends that pass a test.
use Rattle.std.proofs.Common.{◌≡◌, ℕ, zero, suc, ◌+◌, ◌<◌, ◌≤◌, Bool, true, false, cond, List, [], ◌∷◌, length, set, map, refl, sym, ◌∙◌, ap, arith}
use Rattle.flow_link.specs.declared.stage.SourceStage.{SourceStage}
use Rattle.flow_link.specs.declared.stage.SourceStage.TheVariants.{Waiting}
use Rattle.flow_link.proofs.ListTests.{at_most_one}
use Rattle.flow_value.specs.declared.value.Value.{Value}
use Rattle.flow_outlet.specs.ByLink.{forgotten_stage}
use Rattle.flow_outlet.specs.End.{is_away, is_waiting}
use Rattle.flow_outlet.specs.declared.ends.LinkRule.{LinkRule}
use Rattle.flow_outlet.specs.declared.ends.OutEnd.{OutEnd}
use Rattle.flow_spread.specs.declared.end.CopyEnd.{CopyEnd}
use Rattle.flow_spread.specs.End.{fresh_end, end_in, takes_up, is_busy, count_of, owes_it, is_away_at, is_waiting_at, is_busy_at}

-- when one end changes, the count changes by what that end counts before and after
pub count_after_set : (test : CopyEnd → Bool) (ends : List CopyEnd) (k : ℕ) (end : CopyEnd) → k < length ends
    → count_of test (set ends k end) + cond (test (end_in ends k)) 1 0 ≡ count_of test ends + cond (test end) 1 0
count_after_set test [] k end here = absurd (omega arith)
count_after_set test (first ∷ ends) zero end here = omega arith
count_after_set test (first ∷ ends) (suc k) end here = omega (arith, count_after_set test ends k end (omega arith))

-- an end that counts is counted
pub count_there : (test : CopyEnd → Bool) (ends : List CopyEnd) (k : ℕ) → k < length ends
    → cond (test (end_in ends k)) 1 0 ≤ count_of test ends
count_there test [] k here = absurd (omega arith)
count_there test (first ∷ ends) zero here = omega arith
count_there test (first ∷ ends) (suc k) here = omega (arith, count_there test ends k (omega arith))

pub count_below : (test : CopyEnd → Bool) (ends : List CopyEnd) → count_of test ends ≤ length ends
count_below test [] = omega arith
count_below test (first ∷ ends) = omega (arith, at_most_one (test first), count_below test ends)

-- the count that is kept when one end changes
pub count_moved : (test : CopyEnd → Bool) (ends : List CopyEnd) (k : ℕ) (end : CopyEnd) (count counted : ℕ) → k < length ends
    → count ≡ count_of test ends
    → counted + cond (test (end_in ends k)) 1 0 ≡ count + cond (test end) 1 0
    → counted ≡ count_of test (set ends k end)
count_moved test ends k end count counted here is change = omega (arith, count_after_set test ends k end here)

-- an end that passes the test as before changes no count
pub count_same : (test : CopyEnd → Bool) (ends : List CopyEnd) (k : ℕ) (end : CopyEnd) → k < length ends
    → test end ≡ test (end_in ends k) → count_of test (set ends k end) ≡ count_of test ends
count_same test ends k end here same =
    let moved = count_after_set test ends k end here in
    let balanced : count_of test (set ends k end) + cond (test (end_in ends k)) 1 0 ≡ count_of test ends + cond (test (end_in ends k)) 1 0 =
    rw same at moved in
    omega arith

pub none_counts : (test : CopyEnd → Bool) (rules : List LinkRule) → ((rule : LinkRule) → test (fresh_end rule) ≡ false)
    → count_of test (map fresh_end rules) ≡ 0
none_counts test [] none = refl
none_counts test (rule ∷ rules) none = rw (none rule, none_counts test rules none) refl

-- where nobody passes, each end does not
pub none_there : (test : CopyEnd → Bool) (ends : List CopyEnd) (k : ℕ) → k < length ends → count_of test ends ≡ 0
    → test (end_in ends k) ≡ false
none_there test ends k here none =
    let few : cond (test (end_in ends k)) 1 0 ≤ 0 = omega (arith, count_there test ends k here) in
    below_one (test (end_in ends k)) few
  where
    below_one : (b : Bool) → cond b 1 0 ≤ 0 → b ≡ false
    below_one true few = absurd (omega arith)
    below_one false few = refl

-- When a new element is taken, what only waited is away no more

away_less : (stage : SourceStage) → cond (is_away (forgotten_stage stage)) 1 0 + cond (is_waiting stage) 1 0 ≡ cond (is_away stage) 1 0
away_less (Waiting _) = refl
away_less stage = refl

none_waits : (stage : SourceStage) → is_waiting (forgotten_stage stage) ≡ false
none_waits (Waiting _) = refl
none_waits stage = refl

same_busy : (stage : SourceStage) → is_busy (forgotten_stage stage) ≡ is_busy stage
same_busy (Waiting _) = refl
same_busy stage = refl

pub away_taken_up : (value : Value) (ends : List CopyEnd)
    → count_of is_away_at (map (takes_up value) ends) + count_of is_waiting_at ends ≡ count_of is_away_at ends
away_taken_up value [] = omega arith
away_taken_up value (end ∷ ends) = omega (arith, away_taken_up value ends, away_less end.link.stage)

pub waiting_taken_up : (value : Value) (ends : List CopyEnd) → count_of is_waiting_at (map (takes_up value) ends) ≡ 0
waiting_taken_up value [] = refl
waiting_taken_up value (end ∷ ends) = rw (none_waits end.link.stage, waiting_taken_up value ends) refl

pub busy_taken_up : (value : Value) (ends : List CopyEnd) → count_of is_busy_at (map (takes_up value) ends) ≡ count_of is_busy_at ends
busy_taken_up value [] = refl
busy_taken_up value (end ∷ ends) = rw (same_busy end.link.stage, busy_taken_up value ends) refl

-- no count changes where the link stays as it is, and what it owes
pub counts_same : (ends : List CopyEnd) (k : ℕ) → k < length ends → (before : CopyEnd) → before ≡ end_in ends k
    → (end : CopyEnd) → end.link ≡ before.link → end.owes ≡ before.owes
    → (count_of owes_it ends ≡ count_of owes_it (set ends k end))
    × (count_of is_away_at ends ≡ count_of is_away_at (set ends k end))
    × (count_of is_waiting_at ends ≡ count_of is_waiting_at (set ends k end))
    × (count_of is_busy_at ends ≡ count_of is_busy_at (set ends k end))
counts_same ends k here before was end link owes =
    let same_link : end.link ≡ (end_in ends k).link = link ∙ ap (λ (e : CopyEnd). e.link) was in (
      sym (count_same owes_it ends k end here (owes ∙ ap (λ (e : CopyEnd). e.owes) was)),
      sym (count_same is_away_at ends k end here (ap (λ (l : OutEnd). is_away l.stage) same_link)),
      sym (count_same is_waiting_at ends k end here (ap (λ (l : OutEnd). is_waiting l.stage) same_link)),
      sym (count_same is_busy_at ends k end here (ap (λ (l : OutEnd). is_busy l.stage) same_link)),
    )
