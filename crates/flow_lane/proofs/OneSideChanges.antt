-- One side of a block's lanes takes a step: what is then true of all of them.
use Rattle.std.proofs.Common.{◌≡◌, ◌<◌, ℕ, true, ⊎_elim, List, length, set, get_or, Option, None, option_map, refl, ap, sym, ◌∙◌, subst}
use Rattle.std.specs.Option.{ForSome}
use Rattle.std.proofs.Math.Seq.{map-set_same}
use Rattle.std.proofs.lemmas.Bool.{cases_eq}
use Rattle.std.proofs.lemmas.List.{get_or_default, get_or-set_same, get_or-set_other}
use Rattle.flow_lane.specs.declared.phase.LanePhase.{LanePhase}
use Rattle.flow_lane.specs.declared.phase.LanePhase.TheVariants.{Result}
use Rattle.flow_lane.specs.BlockLanes.{changed, no_side, side_in, tables_of, ticket_at}
use Rattle.flow_lane.specs.Items.{JobState}
use Rattle.flow_lane.specs.Sides.{BlockOf, block_finds}
use Rattle.flow_lane.specs.Views.{BlockStage, BlockView, is_free, is_ready, is_sent}

-- no result is kept
pub none_held : {R : Type 0} (kept : Option (ℕ × R)) (P : ℕ × R → Type 0) → option_map (λ k. k.0) kept ≡ None → ForSome kept P
none_held kept P none k is = absurd (let e = sym none ∙ ap (option_map (λ k. k.0)) is in cc)

module _ {W : Type 0} where
  -- a look does not change for which job a side stands
  pub finds_ticket : (b : BlockStage (JobState W)) (p : LanePhase) → ticket_at (block_finds b p) ≡ ticket_at b
  finds_ticket (BlockStage.sent j) Result = refl
  finds_ticket (BlockStage.sent j) _ = refl
  finds_ticket _ _ = refl

  -- a side with no result in hand
  pub free_no_hand : (b : BlockStage (JobState W)) (job : JobState W) → is_free b ≡ true → b ≡ BlockStage.hand job → ⊥
  free_no_hand b job free hand = let e = ap is_free hand in cc

  pub ready_no_hand : (b : BlockStage (JobState W)) (job : JobState W) → is_ready b ≡ true → b ≡ BlockStage.hand job → ⊥
  ready_no_hand b job ready hand = let e = ap is_ready hand in cc

  pub sent_no_hand : (b : BlockStage (JobState W)) (job : JobState W) → is_sent b ≡ true → b ≡ BlockStage.hand job → ⊥
  sent_no_hand b job sent hand = let e = ap is_sent hand in cc

  module _ (sides : List (BlockOf (JobState W))) (place : ℕ) (there : place < length sides) where
    -- the side that stands at the place
    pub here_is : (side : BlockOf (JobState W)) → side ≡ get_or sides place side → side ≡ side_in sides place
    here_is side at = at ∙ get_or_default sides place side no_side there

    module _ (next : BlockOf (JobState W)) where
      -- it stands there now, and the others where they stood
      pub stands_now : side_in (set sides place next) place ≡ next
      stands_now = get_or-set_same sides place next no_side there

      -- what is kept is still in hand, where what changed was not
      pub still_in_hand : {R : Type 0} (kept : Option (ℕ × R)) (job_of : R → JobState W)
          → ((job : JobState W) → (side_in sides place).side.stage ≡ BlockStage.hand job → ⊥)
          → ForSome kept (λ k. (side_in sides k.0).side.stage ≡ BlockStage.hand (job_of k.1))
          → ForSome kept (λ k. (side_in (set sides place next) k.0).side.stage ≡ BlockStage.hand (job_of k.1))
      still_in_hand kept job_of other held k is =
          ⊎_elim
          (λ (same : k.0 ≡ place). absurd (other (job_of k.1) (subst (λ (n : ℕ). (side_in sides n).side.stage ≡ BlockStage.hand (job_of k.1)) same (held k is))))
          (λ (apart : k.0 ≡ place → ⊥). ap (λ (s : BlockOf (JobState W)). s.side.stage) (get_or-set_other sides place k.0 next no_side apart) ∙ held k is)
          (cases_eq k.0 place)

      pub tables_now : next.table ≡ (side_in sides place).table → tables_of (set sides place next) ≡ tables_of sides
      tables_now same = map-set_same (λ (s : BlockOf (JobState W)). s.table) sides place next no_side same

    pub same_table : (change : BlockView (JobState W) → BlockView (JobState W)) (side next : BlockOf (JobState W)) → side ≡ get_or sides place side → next ≡ changed change side
        → next.table ≡ (side_in sides place).table
    same_table change side next at is = ap (λ (s : BlockOf (JobState W)). s.table) (is ∙ ap (changed change) (here_is side at))
