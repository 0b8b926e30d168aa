-- What the tests of sources that keep a message need of each other.
use Rattle.std.specs.Prelude.{◌≡◌, ℕ}
use Rattle.flow_link.specs.SourceCalls.{NothingOut}
use Rattle.flow_link.specs.declared.stage.SourceStage.{SourceStage}
use Rattle.flow_link.specs.declared.stage.SourceStage.TheVariants.{Waiting, Reserved}

-- links 7 and 8 put these messages off, and no offer is out
pub record BothWait (first second : ℕ) (stages : ℕ → SourceStage) : Type 0 where
  pub none_out : NothingOut stages
  pub at_first : stages 7 ≡ Waiting first
  pub at_second : stages 8 ≡ Waiting second

-- the one is kept for link 7
pub record FirstKept (first second : ℕ) (stages : ℕ → SourceStage) : Type 0 where
  pub none_out : NothingOut stages
  pub at_first : stages 7 ≡ Reserved first
  pub at_second : stages 8 ≡ Waiting second
