-- What the tests of blocks need of each other.
use Rattle.std.specs.Prelude.{◌≡◌, ℕ, true, false, List, [], ◌∷◌, None}
use Rattle.flow_value.specs.declared.when.When.TheVariants.{Any}
use Rattle.flow_link.specs.declared.stage.TargetStage.{TargetStage}
use Rattle.flow_link.specs.declared.stage.TargetStage.TheVariants.{Free}
use Rattle.flow_intake.specs.Port.{PortState, fresh_port, fresh_end}
use Rattle.flow_group.specs.declared.round.Source.{Source}
use Rattle.flow_outlet.specs.declared.ends.LinkRule.{LinkRule}

-- nothing is under way over the first two links
pub record Rests (stages : ℕ → TargetStage) : Type 0 where
  pub first : stages 0 ≡ Free
  pub second : stages 1 ≡ Free

abbrev pub two_ports : List PortState
two_ports = record (fresh_port None) { ends = fresh_end 0 ∷ [] } ∷ record (fresh_port None) { ends = fresh_end 1 ∷ [] } ∷ []

-- ports of a join that reserves, and the blocks from which their links come
abbrev pub reserving_ports : List PortState
reserving_ports =
    record (fresh_port None) { reserves = true; ends = fresh_end 0 ∷ [] } ∷ record (fresh_port None) { reserves = true; ends = fresh_end 1 ∷ [] } ∷ []

abbrev pub two_sources : List Source
two_sources = record { link = 0; block = 5 } ∷ record { link = 1; block = 3 } ∷ []

-- a link that carries every message, to a target that may put it off
abbrev pub link_to : ℕ → LinkRule
link_to id = record { id = id; when = Any; max = None; passes = true; steady = false; sole = false }
