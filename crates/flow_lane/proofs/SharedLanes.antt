-- Lanes that are made one after another, with an end of each, and the jobs that are put there.
use Rattle.std.proofs.Common.{◌≡◌, ◌<◌, ◌≤◌, ℕ, Bool, true, false, cond, List, [], ◌∷◌, ◌++◌, length, map, set, Some, None, Result, Ok, Err, IsOk, OnOk, OnErr, ◌↔◌, position, ⊎_elim, eq-eqb, refl, ap, sym, ◌∙◌, arith}
use Rattle.std.specs.List.{list_any, position_or_len, slice_get}
use Rattle.std.proofs.lemmas.Bool.{cases_lt, lt-ltb}
use Rattle.std.proofs.lemmas.List.{get_or-set_same, length-map, length-set}
use Rattle.std.proofs.lemmas.List.Folds.{list_any_at, list_any_none}
use Rattle.std.proofs.lemmas.List.Sums.{fails_before_first}
use Rattle.flow_lane.specs.BlockLanes.{LanesState, MayPut, changed, has_ticket, no_side, side_at, stage_at, with_side}
use Rattle.flow_lane.specs.Items.{JobState}
use Rattle.flow_lane.specs.Sides.{BlockOf, putting}
use Rattle.flow_lane.specs.Views.{BlockStage, is_free}
use Rattle.flow_lane.proofs.LanesStayApart.{is_there}

-- as many of the one as of the other
pub as_many : {X Y Z : Type 0} (f : X → Z) (g : Y → Z) (xs : List X) (ys : List Y) (zs : List Z) → map f xs ≡ zs → map g ys ≡ zs → length xs ≡ length ys
as_many f g xs ys zs is are = sym (length-map xs f) ∙ ap length (is ∙ sym are) ∙ length-map ys g

module _ {X : Type 0} where
  -- what stands behind the first so many
  map_next : {Y : Type 0} (f : X → Y) (before : List X) (next : X) (rest : List X) → slice_get (map f (before ++ next ∷ rest)) (length before) ≡ Some (f next)
  map_next f [] next rest = refl
  map_next f (x ∷ before) next rest = map_next f before next rest

  -- the end of the next lane is of the table at that place
  pub next_table : {Y : Type 0} (f : X → Y) (all before : List X) (next : X) (rest : List X) (tables : List Y) (place : ℕ)
      → map f all ≡ tables → all ≡ before ++ next ∷ rest → place ≡ length before → slice_get tables place ≡ Some (f next)
  next_table {Y = Y} f all before next rest tables place are is at =
      ap (λ (ys : List Y). slice_get ys place) (sym are) ∙ ap (λ (xs : List X). slice_get (map f xs) place) is
      ∙ ap (slice_get (map f (before ++ next ∷ rest))) at ∙ map_next f before next rest

  -- where no place is the first that passes, none passes
  pub none_passes : (p : X → Bool) (xs : List X) → position p xs ≡ None → list_any p xs ≡ false
  none_passes p xs none =
      list_any_none p xs (λ k d low. fails_before_first p xs k d (⊎_elim
      (λ (less : position_or_len p xs < length xs). absurd (let e = sym (ap (λ (b : Bool). cond b (Some (position_or_len p xs)) None) (lt-ltb (position_or_len p xs) (length xs) less)) ∙ none in cc))
      (λ (past : length xs ≤ position_or_len p xs). omega arith)
      (cases_lt (position_or_len p xs) (length xs))))

module _ {W : Type 0} where
  -- a job stands where it was put
  pub stands_there : (lanes after : LanesState W) (place : ℕ) (job : JobState W) → place < length lanes.sides → after ≡ with_side place (putting job) lanes
      → list_any (has_ticket job.ticket) after.sides ≡ true
  stands_there lanes after place job there is =
      ap (λ (l : LanesState W). list_any (has_ticket job.ticket) l.sides) is
      ∙ list_any_at (has_ticket job.ticket) (set lanes.sides place next) place no_side (let long = length-set lanes.sides place next in omega (arith, long, there))
      (ap (has_ticket job.ticket) (get_or-set_same lanes.sides place next no_side there) ∙ eq-eqb job.ticket job.ticket refl)
    where
      next : BlockOf (JobState W)
      next = changed (putting job) (side_at place lanes)

  -- where a job comes back from a free lane, one with its ticket stands in another
  pub stands_after : {E : Type 0} (lanes after : LanesState W) (place : ℕ) (job : JobState W) (result : Result (Unit {0}) E) → stage_at place lanes ≡ BlockStage.free
      → (IsOk result ↔ MayPut place job.ticket lanes) → OnOk result (after ≡ with_side place (putting job) lanes) → OnErr result (after ≡ lanes)
      → list_any (has_ticket job.ticket) after.sides ≡ true
  stands_after lanes after place job (Ok done) free may put kept = stands_there lanes after place job (is_there is_free refl lanes.sides place (ap is_free free)) put
  stands_after lanes after place job (Err back) free may put kept =
      ap (λ (l : LanesState W). list_any (has_ticket job.ticket) l.sides) kept ∙ not_nowhere (list_any (has_ticket job.ticket) lanes.sides) refl
    where
      not_nowhere : (stands : Bool) → list_any (has_ticket job.ticket) lanes.sides ≡ stands → stands ≡ true
      not_nowhere true is = refl
      not_nowhere false is = absurd (let e = may.1 (record { free = free; nowhere = is }) in cc)
