-- Lanes are ended one after another.
use Rattle.std.proofs.Common.{◌≡◌, ◌+◌, ◌<◌, ℕ, zero, suc, List, [], ◌∷◌, length, map, set, get_or, refl, ap, ◌∙◌, arith}
use Rattle.flow_lane.specs.BlockLanes.{LanesState, ended_where_free, no_side, with_free_ended}
use Rattle.flow_lane.specs.Items.{JobState}
use Rattle.flow_lane.specs.Sides.{BlockOf}

module _ {X : Type 0} (f : X → X) where
  -- the first so many are changed
  abbrev pub changed_below : ℕ → List X → List X
  changed_below zero xs = xs
  changed_below (suc n) [] = []
  changed_below (suc n) (x ∷ xs) = f x ∷ changed_below n xs

  next_changed : (n : ℕ) (xs : List X) (d : X) → n < length xs → set (changed_below n xs) n (f (get_or (changed_below n xs) n d)) ≡ changed_below (suc n) xs
  next_changed zero [] d there = absurd (omega arith)
  next_changed zero (x ∷ xs) d there = refl
  next_changed (suc n) [] d there = absurd (omega arith)
  next_changed (suc n) (x ∷ xs) d there = ap (λ (ys : List X). f x ∷ ys) (next_changed n xs d (omega arith))

  all_changed : (xs : List X) → changed_below (length xs) xs ≡ map f xs
  all_changed [] = refl
  all_changed (x ∷ xs) = ap (λ (ys : List X). f x ∷ ys) (all_changed xs)

module _ {W : Type 0} where
  -- the free ones among the first so many are ended
  abbrev pub ended_below : ℕ → LanesState W → LanesState W
  ended_below n lanes = record { sides = changed_below ended_where_free n lanes.sides; kept = lanes.kept }

  pub ended_next : (n : ℕ) (first before after : LanesState W) → n < length first.sides → before ≡ ended_below n first
      → after ≡ record { sides = set before.sides n (ended_where_free (get_or before.sides n no_side)); kept = before.kept }
      → after ≡ ended_below (n + 1) first
  ended_next n first before after there was is =
      is ∙ ap (λ (l : LanesState W). record { sides = set l.sides n (ended_where_free (get_or l.sides n no_side)); kept = l.kept }) was
      ∙ ap (λ (sides : List (BlockOf (JobState W))). record { sides = sides; kept = first.kept }) (next_changed ended_where_free n first.sides no_side there)
      ∙ ap (λ (m : ℕ). ended_below m first) (let more : suc n ≡ n + 1 = omega arith in more)

  pub all_ended : (n : ℕ) (lanes : LanesState W) → n ≡ length lanes.sides → ended_below n lanes ≡ with_free_ended lanes
  all_ended n lanes many =
      ap (λ (m : ℕ). ended_below m lanes) many
      ∙ ap (λ (sides : List (BlockOf (JobState W))). record { sides = sides; kept = lanes.kept }) (all_changed ended_where_free lanes.sides)
