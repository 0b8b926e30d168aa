-- What a layout says of the way of a link: its source and its target, and the place that the link has at each.
use Rattle.std.specs.Prelude.{ℕ}
use Rattle.flow_link.specs.declared.plan.Link.{Link}
use Rattle.flow_link.specs.declared.plan.LinkSource.{LinkSource}
use Rattle.flow_link.specs.declared.plan.LinkSource.TheVariants.{Block, Input}
use Rattle.flow_link.specs.declared.plan.LinkTarget.{LinkTarget}
use Rattle.flow_link.specs.declared.plan.LinkTarget.TheVariants.{Port, Exit}
use Rattle.flow_link.specs.Layout.{Layout}
use Rattle.flow_link.specs.Plan.{link_in}
use Rattle.flow_block.specs.declared.planned.Route.{Route}
use Rattle.flow_block.specs.Planned.{out_place, in_place, input_place, exit_place}

module _ {W : Type 0} (layout : Layout W) where
  -- the place of an input is among all inputs, since one link leaves it; that of an exit among all exits
  abbrev pub source_place : LinkSource → ℕ → ℕ
  source_place (Block b) l = out_place layout b l
  source_place (Input b) l = input_place layout b

  abbrev pub target_place : LinkTarget → ℕ → ℕ
  target_place (Port b p) l = in_place layout b p l
  target_place Exit l = exit_place layout l

  abbrev pub route_by : ℕ → Link → Route
  route_by l link = record {
    source = link.source;
    source_place = source_place link.source l;
    target = link.target;
    target_place = target_place link.target l;
  }

  abbrev pub route_of : ℕ → Route
  route_of l = route_by l (link_in layout.links l)
