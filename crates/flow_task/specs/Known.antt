-- What the ends of a block's links are: each is an end of the link's own wire, and knows what the plan says of the link and what the
-- block knows of it.
use Rattle.std.specs.Prelude.{ℕ, List, length, map, get_or, slice_get, Option, Some}
use Rattle.atomic_table.specs.Seated.{TableId}
use Rattle.flow_value.specs.declared.value.Value.{Value}
use Rattle.flow_link.specs.Lists.{below}
use Rattle.flow_link.specs.Facts.{facts_in}
use Rattle.flow_link.specs.Layout.{Layout}
use Rattle.flow_link.specs.Plan.{link_in}
use Rattle.flow_link.specs.Views.{SourceView, TargetView, LinkFacts}
use Rattle.flow_block.specs.Node.{NodeState, in_view, source_view}
use Rattle.flow_block.specs.Planned.{links_from, links_to}
use Rattle.flow_core.specs.MovesFit.{out_count, in_count}
use Rattle.flow_core.specs.State.{NetState, source_from, target_from}
use Rattle.flow_wire.specs.Ends.{SourceOf, TargetOf}

pub record OutKnown : Type 0 where
  pub table : Option TableId
  pub facts : LinkFacts
  pub view : SourceView Value

pub record InKnown : Type 0 where
  pub table : Option TableId
  pub facts : LinkFacts
  pub view : TargetView Value

abbrev pub out_known : SourceOf → OutKnown
out_known end = record { table = Some end.table; facts = end.side.facts; view = end.side.view }

abbrev pub in_known : TargetOf → InKnown
in_known end = record { table = Some end.table; facts = end.side.facts; view = end.side.view }

module _ {W : Type 0} (layout : Layout W) (wires : List TableId) (b : ℕ) where
  -- the link out of the block at a place, and into a port of it
  abbrev pub link_from : ℕ → ℕ
  link_from k = get_or (links_from layout b) k 0

  abbrev pub link_to : ℕ → ℕ → ℕ
  link_to p k = get_or (links_to layout b p) k 0

  -- what its ends are to be, where the block knows this
  abbrev pub out_due : NodeState → ℕ → OutKnown
  out_due node k =
      record { table = slice_get wires (link_from k); facts = facts_in layout (link_from k); view = source_view k node }

  abbrev pub in_due : ℕ → NodeState → ℕ → InKnown
  in_due p node k =
      record { table = slice_get wires (link_to p k); facts = facts_in layout (link_to p k); view = in_view p k node }

  abbrev pub outs_due : NodeState → List OutKnown
  outs_due node = map (out_due node) (below (out_count node))

  abbrev pub port_due : NodeState → ℕ → List InKnown
  port_due node p = map (in_due p node) (below (in_count p node))

  abbrev pub ins_due : NodeState → List (List InKnown)
  ins_due node = map (port_due node) (below (length node.block.ports))

-- What the ends of a link of a network are to be
module _ {W : Type 0} (layout : Layout W) (wires : List TableId) (net : NetState) where
  abbrev pub source_due : ℕ → OutKnown
  source_due l = record {
    table = slice_get wires l;
    facts = facts_in layout l;
    view = source_from layout net l (link_in layout.links l).source;
  }

  abbrev pub target_due : ℕ → InKnown
  target_due l = record {
    table = slice_get wires l;
    facts = facts_in layout l;
    view = target_from layout net l (link_in layout.links l).target;
  }
