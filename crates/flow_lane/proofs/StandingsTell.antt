-- What a block's side tells at run time stays true with each step.
use Rattle.std.proofs.Common.{◌≡◌, ℕ, List, sym, refl, ap, ◌∙◌, subst, Option, Some, option_map, unwrap_or}
use Rattle.atomic_table.specs.Table.{Me}
use Rattle.flow_lane.specs.declared.phase.LanePhase.{LanePhase}
use Rattle.flow_lane.specs.declared.phase.LanePhase.TheVariants.{Result}
use Rattle.flow_lane.specs.declared.standing.Standing.{Standing}
use Rattle.flow_lane.specs.Phase.{word_of_phase}
use Rattle.flow_lane.specs.BlockLanes.{is_ended}
use Rattle.flow_lane.specs.Items.{JobState, ticket_of as state_ticket}
use Rattle.flow_lane.specs.Standing.{looked_at, standing_of, stands_ended, stands_free, stands_ready, stands_sent}
use Rattle.flow_lane.specs.Sides.{block_finds, block_looked}
use Rattle.flow_lane.specs.Views.{BlockStage, BlockView, SeatView, block_in, is_free, is_ready, is_sent}
use Rattle.flow_lane.proofs.WordsDiffer.{words_tell}

module _ {J : Type 0} (ticket_of : J → ℕ) where
  finds_is : (b : BlockStage J) (p : LanePhase) → standing_of ticket_of (block_finds b p) ≡ option_map (λ s. looked_at s p) (standing_of ticket_of b)
  finds_is (BlockStage.sent j) Result = refl
  finds_is (BlockStage.sent j) _ = refl
  finds_is _ _ = refl

  -- a stage is told by what is told of it
  pub free_is : (b : BlockStage J) (s : Standing) → standing_of ticket_of b ≡ Some s → is_free b ≡ stands_free s
  free_is BlockStage.free s told = ap (λ (o : Option Standing). stands_free (unwrap_or o s)) told
  free_is BlockStage.filling s told = absurd (cc)
  free_is (BlockStage.sent j) s told = ap (λ (o : Option Standing). stands_free (unwrap_or o s)) told
  free_is (BlockStage.ready j) s told = ap (λ (o : Option Standing). stands_free (unwrap_or o s)) told
  free_is (BlockStage.hand j) s told = ap (λ (o : Option Standing). stands_free (unwrap_or o s)) told
  free_is BlockStage.ended s told = ap (λ (o : Option Standing). stands_free (unwrap_or o s)) told

  pub sent_is : (b : BlockStage J) (s : Standing) → standing_of ticket_of b ≡ Some s → is_sent b ≡ stands_sent s
  sent_is BlockStage.free s told = ap (λ (o : Option Standing). stands_sent (unwrap_or o s)) told
  sent_is BlockStage.filling s told = absurd (cc)
  sent_is (BlockStage.sent j) s told = ap (λ (o : Option Standing). stands_sent (unwrap_or o s)) told
  sent_is (BlockStage.ready j) s told = ap (λ (o : Option Standing). stands_sent (unwrap_or o s)) told
  sent_is (BlockStage.hand j) s told = ap (λ (o : Option Standing). stands_sent (unwrap_or o s)) told
  sent_is BlockStage.ended s told = ap (λ (o : Option Standing). stands_sent (unwrap_or o s)) told

  pub ready_is : (b : BlockStage J) (s : Standing) → standing_of ticket_of b ≡ Some s → is_ready b ≡ stands_ready s
  ready_is BlockStage.free s told = ap (λ (o : Option Standing). stands_ready (unwrap_or o s)) told
  ready_is BlockStage.filling s told = absurd (cc)
  ready_is (BlockStage.sent j) s told = ap (λ (o : Option Standing). stands_ready (unwrap_or o s)) told
  ready_is (BlockStage.ready j) s told = ap (λ (o : Option Standing). stands_ready (unwrap_or o s)) told
  ready_is (BlockStage.hand j) s told = ap (λ (o : Option Standing). stands_ready (unwrap_or o s)) told
  ready_is BlockStage.ended s told = ap (λ (o : Option Standing). stands_ready (unwrap_or o s)) told

module _ {J S : Type 0} (ticket_of : J → ℕ) where
  pub told_now : (me : Me (Option S) (SeatView J)) (b : BlockView J) (c : List (ℕ × Option S)) (s : Standing) → me ≡ (SeatView.block b, c) → standing_of ticket_of b.stage ≡ Some s
      → standing_of ticket_of (block_in me.0).stage ≡ Some s
  told_now me b c s now told = subst (λ (m : Me (Option S) (SeatView J)). standing_of ticket_of (block_in m.0).stage ≡ Some s) (sym now) told

  -- after a look that found this phase
  pub looked_told : (me me' : Me (Option S) (SeatView J)) (p q : LanePhase) (n : ℕ) (s : Standing) → standing_of ticket_of (block_in me.0).stage ≡ Some s → n ≡ word_of_phase p → n ≡ word_of_phase q
      → me' ≡ (SeatView.block (block_looked p (block_in me.0)), me.1) → standing_of ticket_of (block_in me'.0).stage ≡ Some (looked_at s q)
  looked_told me me' p q n s was first second told =
      subst (λ (x : LanePhase × Me (Option S) (SeatView J)). standing_of ticket_of (block_in x.1.0).stage ≡ Some (looked_at s x.0)) (λ i. (words_tell p q (sym first ∙ second) i, sym told i))
      (finds_is ticket_of (block_in me.0).stage p ∙ ap (option_map (λ (s : Standing). looked_at s p)) was)

module _ {W : Type 0} where
  pub ended_is : (b : BlockStage (JobState W)) (s : Standing) → standing_of state_ticket b ≡ Some s → is_ended b ≡ stands_ended s
  ended_is BlockStage.free s told = ap (λ (o : Option Standing). stands_ended (unwrap_or o s)) told
  ended_is BlockStage.filling s told = absurd (cc)
  ended_is (BlockStage.sent j) s told = ap (λ (o : Option Standing). stands_ended (unwrap_or o s)) told
  ended_is (BlockStage.ready j) s told = ap (λ (o : Option Standing). stands_ended (unwrap_or o s)) told
  ended_is (BlockStage.hand j) s told = ap (λ (o : Option Standing). stands_ended (unwrap_or o s)) told
  ended_is BlockStage.ended s told = ap (λ (o : Option Standing). stands_ended (unwrap_or o s)) told
