-- The first place that passes a test stands so.
use Rattle.std.proofs.Common.{◌≡◌, ℕ, true, Option, Some, None, IfSome, position, refl, sym}
use Rattle.std.proofs.lemmas.List.Quantifiers.{position-Some}
use Rattle.flow_lane.specs.BlockLanes.{LanesState, has_result, has_room, no_side, stage_at}
use Rattle.flow_lane.specs.Views.{BlockStage, is_free, is_ready}

module _ {J : Type 0} where
  pub free_is : (b : BlockStage J) → is_free b ≡ true → b ≡ BlockStage.free
  free_is BlockStage.free free = refl
  free_is BlockStage.filling free = absurd (cc)
  free_is (BlockStage.sent j) free = absurd (cc)
  free_is (BlockStage.ready j) free = absurd (cc)
  free_is (BlockStage.hand j) free = absurd (cc)
  free_is BlockStage.ended free = absurd (cc)

module _ {W : Type 0} where
  pub free_there : (lanes : LanesState W) (found : Option ℕ) → found ≡ position has_room lanes.sides → IfSome found (λ place. stage_at place lanes ≡ BlockStage.free)
  free_there lanes None first = tt
  free_there lanes (Some place) first = free_is (stage_at place lanes) (position-Some has_room lanes.sides place no_side (sym first)).1

  pub ready_there : (lanes : LanesState W) (found : Option ℕ) → found ≡ position has_result lanes.sides → IfSome found (λ place. is_ready (stage_at place lanes) ≡ true)
  ready_there lanes None first = tt
  ready_there lanes (Some place) first = (position-Some has_result lanes.sides place no_side (sym first)).1
