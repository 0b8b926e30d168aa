-- What stays of a target, as those see it who know it by its traits alone.
use Rattle.std.specs.Prelude.{◌≡◌, ℕ}
use Rattle.flow_link.specs.declared.stage.TargetStage.{TargetStage}
use Rattle.flow_link.specs.TargetCalls.{is_awaited}

module _ {T : Type 0} (count : T → ℕ) (into : T → ℕ → ℕ) where
  -- it has as many ports, and each link leads into the same one
  pub record PortsStay (old new : T) : Type 0 where
    pub as_many : count new ≡ count old
    pub leads : (link : ℕ) → into new link ≡ into old link

  -- and over each link a message is awaited where one was
  pub record AwaitsTheSame (stage : T → ℕ → TargetStage) (old new : T) : Type 0 where
    pub ports : PortsStay old new
    pub awaits : (link : ℕ) → is_awaited (stage new link) ≡ is_awaited (stage old link)
