-- No ticket comes to stand in two lanes, and a side that changes keeps its place.
use Rattle.std.proofs.Common.{◌≡◌, ◌+◌, ◌<◌, ◌≤◌, ℕ, zero, suc, Bool, true, false, cond, ◌||◌, Some, None, ◌⊎◌, ⊎_elim, inl, inr, List, [], ◌∷◌, length, set, All, count_by, refl, ap, sym, ◌∙◌, subst, arith}
use Rattle.std.specs.List.{list_any}
use Rattle.std.proofs.lemmas.Bool.{eqb-true}
use Rattle.std.proofs.lemmas.List.{length-map}
use Rattle.std.proofs.lemmas.List.Elements.{All-tail}
use Rattle.std.proofs.lemmas.List.Sums.{sum_by-cons, sum_by-set}
use Rattle.atomic_table.specs.Seated.{TableId}
use Rattle.flow_lane.specs.BlockLanes.{AreApart, has_ticket, is_ticket, no_side, side_in, tables_of, ticket_at}
use Rattle.flow_lane.specs.Items.{JobState}
use Rattle.flow_lane.specs.Sides.{BlockOf}
use Rattle.flow_lane.specs.Views.{BlockStage}

-- Counting

count_step : (b rest : Bool) (n : ℕ) → (b || rest) ≡ false → (rest ≡ false → n ≡ 0) → cond b 1 0 + n ≡ 0
count_step true rest n none then = absurd (cc)
count_step false rest n none then = let e = then none in omega arith

none_counts : {X : Type 0} (p : X → Bool) (xs : List X) → list_any p xs ≡ false → count_by p xs ≡ 0
none_counts p [] none = refl
none_counts p (x ∷ xs) none = sum_by-cons (λ y. cond (p y) 1 0) x xs ∙ count_step (p x) (list_any p xs) (count_by p xs) none (none_counts p xs)

at_most_one : (n m : ℕ) (was is : Bool) → n + cond was 1 0 ≡ m + cond is 1 0 → m ≤ 1 → (is ≡ true → (was ≡ true) ⊎ (m ≡ 0)) → n ≤ 1
at_most_one n m true true counts few from = omega arith
at_most_one n m true false counts few from = omega arith
at_most_one n m false false counts few from = omega arith
at_most_one n m false true counts few from = ⊎_elim (λ (e : false ≡ true). absurd (cc)) (λ (e : m ≡ 0). omega arith) (from refl)

none_step : (b rest : Bool) (n : ℕ) → cond b 1 0 + n ≡ 0 → (n ≡ 0 → rest ≡ false) → (b || rest) ≡ false
none_step true rest n none then = absurd (omega (arith, none))
none_step false rest n none then = then (omega (arith, none))

counts_none : {X : Type 0} (p : X → Bool) (xs : List X) → count_by p xs ≡ 0 → list_any p xs ≡ false
counts_none p [] none = refl
counts_none p (x ∷ xs) none =
    none_step (p x) (list_any p xs) (count_by p xs) (sym (sum_by-cons (λ y. cond (p y) 1 0) x xs) ∙ none) (counts_none p xs)

none_left : (n m : ℕ) (was is : Bool) → n + cond was 1 0 ≡ m + cond is 1 0 → m ≤ 1 → was ≡ true → is ≡ false → n ≡ 0
none_left n m true false counts few stood gone = omega (arith, counts, few)
none_left n m true true counts few stood gone = absurd (cc)
none_left n m false is counts few stood gone = absurd (cc)

module _ {W : Type 0} where
  -- one side changed: each ticket for which it stands now stood there before, or nowhere
  pub stays_apart : (sides : List (BlockOf (JobState W))) (place : ℕ) (side : BlockOf (JobState W)) → place < length sides → AreApart sides
      → ((ticket : ℕ) → has_ticket ticket side ≡ true → (has_ticket ticket (side_in sides place) ≡ true) ⊎ (count_by (has_ticket ticket) sides ≡ 0))
      → AreApart (set sides place side)
  stays_apart sides place side there apart from ticket =
      at_most_one (count_by (has_ticket ticket) (set sides place side)) (count_by (has_ticket ticket) sides)
      (has_ticket ticket (side_in sides place)) (has_ticket ticket side)
      (sum_by-set (λ (s : BlockOf (JobState W)). cond (has_ticket ticket s) 1 0) sides place side no_side there)
      (apart ticket) (from ticket)

  -- it stands for the same job
  pub same_apart : (sides : List (BlockOf (JobState W))) (place : ℕ) (side : BlockOf (JobState W)) → place < length sides → AreApart sides
      → ticket_at side.side.stage ≡ ticket_at (side_in sides place).side.stage → AreApart (set sides place side)
  same_apart sides place side there apart same =
      stays_apart sides place side there apart (λ ticket stands. inl (ap (is_ticket ticket) (sym same) ∙ stands))

  -- it stands for none
  pub none_apart : (sides : List (BlockOf (JobState W))) (place : ℕ) (side : BlockOf (JobState W)) → place < length sides → AreApart sides
      → ticket_at side.side.stage ≡ None → AreApart (set sides place side)
  none_apart sides place side there apart none =
      stays_apart sides place side there apart (λ ticket stands. absurd (let e = ap (is_ticket ticket) none in cc))

  -- it stands for a job that stood nowhere
  pub new_apart : (sides : List (BlockOf (JobState W))) (place own : ℕ) (side : BlockOf (JobState W)) → place < length sides → AreApart sides
      → ticket_at side.side.stage ≡ Some own → list_any (has_ticket own) sides ≡ false → AreApart (set sides place side)
  new_apart sides place own side there apart is none =
      stays_apart sides place side there apart (λ ticket stands.
      let same : own ≡ ticket = eqb-true own ticket (ap (is_ticket ticket) (sym is) ∙ stands) in
      inr (subst (λ (n : ℕ). count_by (has_ticket n) sides ≡ 0) same (none_counts (has_ticket own) sides none)))

  -- it stands no more for a ticket for which it stood: then none does
  pub one_gone : (sides : List (BlockOf (JobState W))) (place ticket : ℕ) (side : BlockOf (JobState W)) → place < length sides → AreApart sides
      → has_ticket ticket (side_in sides place) ≡ true → has_ticket ticket side ≡ false → list_any (has_ticket ticket) (set sides place side) ≡ false
  one_gone sides place ticket side there apart stood gone =
      counts_none (has_ticket ticket) (set sides place side)
      (none_left (count_by (has_ticket ticket) (set sides place side)) (count_by (has_ticket ticket) sides)
      (has_ticket ticket (side_in sides place)) (has_ticket ticket side)
      (sum_by-set (λ (s : BlockOf (JobState W)). cond (has_ticket ticket s) 1 0) sides place side no_side there)
      (apart ticket) stood gone)

  -- where all are free, no ticket stands anywhere
  none_free : (ticket : ℕ) (sides : List (BlockOf (JobState W))) → All (λ (s : BlockOf (JobState W)). s.side.stage ≡ BlockStage.free) sides → count_by (has_ticket ticket) sides ≡ 0
  none_free ticket [] free = refl
  none_free ticket (s ∷ sides) free =
      let here : s.side.stage ≡ BlockStage.free = free 0 s (omega arith) in
      let not_here : has_ticket ticket s ≡ false = ap (λ (b : BlockStage (JobState W)). is_ticket ticket (ticket_at b)) here in
      let rest = none_free ticket sides (All-tail (λ (s : BlockOf (JobState W)). s.side.stage ≡ BlockStage.free) s sides free) in
      sum_by-cons (λ (s : BlockOf (JobState W)). cond (has_ticket ticket s) 1 0) s sides
      ∙ ap (λ (b : Bool). cond b 1 0 + count_by (has_ticket ticket) sides) not_here ∙ (omega (arith, rest))

  pub free_apart : (sides : List (BlockOf (JobState W))) → All (λ (s : BlockOf (JobState W)). s.side.stage ≡ BlockStage.free) sides → AreApart sides
  free_apart sides free ticket = let none = none_free ticket sides free in omega (arith, none)

  -- Places

  -- a place whose stage passes a test that no side past the last one passes
  pub is_there : (p : BlockStage (JobState W) → Bool) → p BlockStage.ended ≡ false → (sides : List (BlockOf (JobState W))) (place : ℕ) → p (side_in sides place).side.stage ≡ true
      → place < length sides
  is_there p past [] place here = absurd (cc)
  is_there p past (s ∷ sides) zero here = omega arith
  is_there p past (s ∷ sides) (suc place) here = let rest = is_there p past sides place here in omega arith

  -- as many sides as lanes
  pub many_lanes : (sides : List (BlockOf (JobState W))) (lanes : List TableId) → tables_of sides ≡ lanes → length lanes ≡ length sides
  many_lanes sides lanes tables = ap length (sym tables) ∙ length-map sides (λ (s : BlockOf (JobState W)). s.table)
