-- What those who offer messages by hand need of each other.
use Rattle.std.specs.Prelude.{◌≡◌, ℕ}
use Rattle.flow_link.specs.declared.stage.TargetStage.{TargetStage}
use Rattle.flow_link.specs.declared.stage.TargetStage.TheVariants.{Free}

-- nothing is under way over the first two links
pub record Rests (stages : ℕ → TargetStage) : Type 0 where
  pub first : stages 0 ≡ Free
  pub second : stages 1 ≡ Free
