-- What a layout says of each of its links.
use Rattle.std.specs.Prelude.{ℕ, Bool, false}
use Rattle.flow_link.specs.declared.plan.LinkTarget.{LinkTarget}
use Rattle.flow_link.specs.declared.plan.LinkTarget.TheVariants.{Port, Exit}
use Rattle.flow_link.specs.Layout.{Layout}
use Rattle.flow_link.specs.Plan.{block_in, link_in, is_steady, is_sole, is_reserving}
use Rattle.flow_link.specs.Views.{LinkFacts}

module _ {W : Type 0} (layout : Layout W) where
  abbrev pub reserves_in : LinkTarget → Bool
  reserves_in (Port t p) = is_reserving (block_in layout.blocks t)
  reserves_in Exit = false

  abbrev pub facts_in : ℕ → LinkFacts
  facts_in l = record {
    steady = is_steady layout.blocks (link_in layout.links l).target;
    sole = is_sole layout.blocks layout.links (link_in layout.links l).target;
    reserving = reserves_in (link_in layout.links l).target;
    max = (link_in layout.links l).max;
    propagates = (link_in layout.links l).propagate;
  }
