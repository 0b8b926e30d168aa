-- A job of the block's own stays in its lane until it is taken back.
use Rattle.std.proofs.Common.{◌≡◌, ◌↔◌, ℕ, zero, suc, Bool, true, false, ⊎_elim, inl, inr, List, [], ◌∷◌, get_or, Option, Some, None, Result, Ok, Err, refl, sym, ap, ◌∙◌, subst}
use Rattle.std.proofs.lemmas.Bool.{cases_eq}
use Rattle.std.proofs.lemmas.List.{get_or-set_other}
use Rattle.flow_value.specs.declared.value.Value.{Value}
use Rattle.flow_link.specs.Layout.{Layout}
use Rattle.flow_block.specs.Node.{NodeState}
use Rattle.flow_block_law.specs.JobsEnd.{after_job}
use Rattle.flow_lane.specs.BlockLanes.{LanesState, changed, job_at, jobs_of, no_side, side_at, side_in, stage_at, with_side}
use Rattle.flow_lane.specs.Items.{JobState}
use Rattle.flow_lane.specs.Sides.{BlockOf, clearing}
use Rattle.flow_task.specs.Laned.{IsOwn, OwnJobsStay, TakesBack}

module _ {W : Type 0} where
  job_listed : (sides : List (BlockOf (JobState W))) (place : ℕ) → job_at (side_in sides place).side.stage ≡ get_or (jobs_of sides) place None
  job_listed [] place = refl
  job_listed (side ∷ sides) zero = refl
  job_listed (side ∷ sides) (suc place) = job_listed sides place

  -- the same job stands in each lane
  job_there : (lanes after : LanesState W) → jobs_of after.sides ≡ jobs_of lanes.sides → (place : ℕ)
      → job_at (stage_at place after) ≡ job_at (stage_at place lanes)
  job_there lanes after same place =
      job_listed after.sides place ∙ ap (λ (jobs : List (Option (JobState W))). get_or jobs place None) same ∙ sym (job_listed lanes.sides place)

module _ {W : Type 0} (equal : W → W → Bool) (layout : Layout W) (b : ℕ) (makes : Value → Result (List Value) ℕ) (old new : NodeState)
    (lanes after : LanesState W) where
  pub jobs_stay : jobs_of after.sides ≡ jobs_of lanes.sides → OwnJobsStay equal layout b makes old new lanes after
  jobs_stay same place job is own = inl (job_there lanes after same place ∙ is)

  ended : {E : Type 0} (result : Result Bool E) (did : Bool) (ticket : ℕ) → result ≡ Ok did → did ≡ true → TakesBack makes ticket result old new
      → new ≡ after_job makes ticket old
  ended (Ok true) did ticket told done taken = taken.leaves
  ended (Ok false) did ticket told done taken = absurd (cc)
  ended (Err refused) did ticket told done taken = absurd (cc)

  -- one lane was freed, whose job was taken back if it was the block's own
  pub one_freed : {E : Type 0} (result : Result Bool E) (did : Bool) (mid : LanesState W) (freed : ℕ) (done : JobState W) → result ≡ Ok did
      → jobs_of mid.sides ≡ jobs_of lanes.sides → job_at (stage_at freed lanes) ≡ Some done → after ≡ with_side freed clearing mid
      → (did ≡ true) ↔ IsOwn equal layout b old done → TakesBack makes done.ticket result old new
      → OwnJobsStay equal layout b makes old new lanes after
  one_freed result did mid freed done told same of_job is taken back place job stood own =
      ⊎_elim
      (λ (here : place ≡ freed).
      let its : job_at (stage_at freed lanes) ≡ Some job = subst (λ (k : ℕ). job_at (stage_at k lanes) ≡ Some job) here stood in
      let one : job ≡ done = (let e = sym its ∙ of_job in cc) in
      inr (ended result did job.ticket told (taken.1 (subst (λ (j : JobState W). IsOwn equal layout b old j) one own))
      (subst (λ (j : JobState W). TakesBack makes j.ticket result old new) (sym one) back)))
      (λ (apart : place ≡ freed → ⊥).
      inl (ap (λ (l : LanesState W). job_at (stage_at place l)) is
      ∙ ap (λ (s : BlockOf (JobState W)). job_at s.side.stage) (get_or-set_other mid.sides freed place (changed clearing (side_at freed mid)) no_side apart)
      ∙ job_there lanes mid same place ∙ stood))
      (cases_eq place freed)
