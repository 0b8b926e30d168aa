-- How the stages of an end's links change by a call: at one link, and nowhere else.
use Rattle.std.specs.Prelude.{◌≡◌, ◌≢◌, ℕ}

module _ {Stage : Type 0} where
  -- at this link from one stage to another, as told; at each other link the stage stays
  pub record MovesBy (Move : Stage → Stage → Type 0) (link : ℕ) (old new : ℕ → Stage) : Type 0 where
    pub here : Move (old link) (new link)
    pub elsewhere : (other : ℕ) → other ≢ link → new other ≡ old other

  -- at this link to this stage
  pub record MovesTo (stage : Stage) (link : ℕ) (old new : ℕ → Stage) : Type 0 where
    pub here : new link ≡ stage
    pub elsewhere : (other : ℕ) → other ≢ link → new other ≡ old other
