-- Heights of blocks: where each link leads down, no walk leads back.
use Rattle.std.specs.Prelude.{ℕ, Bool, false, List, get_or, leb}
use Rattle.flow_link.specs.declared.plan.Link.{Link}
use Rattle.flow_link.specs.declared.plan.LinkSource.{LinkSource}
use Rattle.flow_link.specs.declared.plan.LinkSource.TheVariants.{Block, Input}
use Rattle.flow_link.specs.declared.plan.LinkTarget.{LinkTarget}
use Rattle.flow_link.specs.declared.plan.LinkTarget.TheVariants.{Port, Exit}

-- the target is a block that is no lower than this height
abbrev pub is_no_lower : List ℕ → ℕ → LinkTarget → Bool
is_no_lower heights height (Port n _) = leb height (get_or heights n 0)
is_no_lower heights height Exit = false

-- the source is a block, and the target one that is no lower
abbrev pub climbs : List ℕ → LinkTarget → LinkSource → Bool
climbs heights target (Block n) = is_no_lower heights (get_or heights n 0) target
climbs heights target (Input _) = false

-- the link leads from a block to one that is no lower
abbrev pub rises : List ℕ → Link → Bool
rises heights link = climbs heights link.target link.source
