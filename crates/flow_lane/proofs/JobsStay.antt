-- A job stays in its lane while the block looks and fetches.
use Rattle.std.proofs.Common.{◌≡◌, ℕ, Bool, true, false, Option, None, refl, ap, sym, subst, ◌∙◌, arith}
use Rattle.std.proofs.Math.Seq.{map-set_same}
use Rattle.std.proofs.lemmas.List.{get_or-map, length-map, same_lists}
use Rattle.flow_lane.specs.declared.phase.LanePhase.{LanePhase}
use Rattle.flow_lane.specs.declared.phase.LanePhase.TheVariants.{Result}
use Rattle.flow_lane.specs.BlockLanes.{HasLooked, HaveLooked, LanesState, TakesFirst, job_at, jobs_of, no_side, side_at, stage_at, with_side}
use Rattle.flow_lane.specs.Items.{JobState}
use Rattle.flow_lane.specs.Sides.{BlockOf, block_finds, fetching}
use Rattle.flow_lane.specs.Views.{BlockStage, is_sent}

module _ {W : Type 0} where
  finds_job : (b : BlockStage (JobState W)) (p : LanePhase) → job_at (block_finds b p) ≡ job_at b
  finds_job (BlockStage.sent j) Result = refl
  finds_job (BlockStage.sent j) _ = refl
  finds_job _ _ = refl

  same_job : (before after : BlockOf (JobState W)) (sent : Bool) → is_sent before.side.stage ≡ sent → HasLooked before after → job_at after.side.stage ≡ job_at before.side.stage
  same_job before after true is looked =
      let found = looked.looked is in ap (λ (s : BlockOf (JobState W)). job_at s.side.stage) found.2 ∙ finds_job before.side.stage found.0
  same_job before after false is looked = ap (λ (s : BlockOf (JobState W)). job_at s.side.stage) (looked.still is)

  -- each look leaves each job where it stood
  pub looked_job : (before after : LanesState W) (place : ℕ) → HaveLooked before after → job_at (stage_at place after) ≡ job_at (stage_at place before)
  looked_job before after place looked = same_job (side_at place before) (side_at place after) (is_sent (stage_at place before)) refl (looked.each place)

  pub looked_jobs : (before after : LanesState W) → HaveLooked before after → jobs_of after.sides ≡ jobs_of before.sides
  looked_jobs before after looked =
      let now = length-map after.sides job in let first = length-map before.sides job in
      same_lists (jobs_of after.sides) (jobs_of before.sides) (now ∙ looked.many ∙ sym first)
      (λ k d low. get_or-map job after.sides k no_side d (omega (arith, low, now)) ∙ looked_job before after k looked
      ∙ sym (get_or-map job before.sides k no_side d (let many = looked.many in omega (arith, low, now, many))))
    where
      job : BlockOf (JobState W) → Option (JobState W)
      job side = job_at side.side.stage

  -- so does a fetch
  pub fetched_jobs : (before after : LanesState W) (place : ℕ) (job : JobState W) → stage_at place before ≡ BlockStage.ready job → after ≡ with_side place (fetching job) before
      → jobs_of after.sides ≡ jobs_of before.sides
  fetched_jobs before after place job ready is =
      ap (λ (l : LanesState W). jobs_of l.sides) is
      ∙ map-set_same (λ (s : BlockOf (JobState W)). job_at s.side.stage) before.sides place _ no_side (sym (ap job_at ready))

  -- where none is kept, there is none to be let go
  pub none_let_go : (taken : Option (ℕ × JobState W)) (seen before mid after : LanesState W) → mid ≡ record { sides = seen.sides; kept = None }
      → seen ≡ before → before.kept ≡ None → TakesFirst taken mid after → TakesFirst taken before after
  none_let_go taken seen before mid after is same none takes =
      subst (λ (l : LanesState W). TakesFirst taken l after)
      (is ∙ ap (λ (l : LanesState W). record { sides = l.sides; kept = None }) same
      ∙ ap (λ (kept : Option ℕ). record { sides = before.sides; kept = kept }) (sym none)) takes
