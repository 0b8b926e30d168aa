-- A network whose blocks, inputs, exits and links are in order, whenever the ends of its links looked last; and what becomes of it when
-- all of them look.
use Rattle.std.specs.Prelude.{◌≡◌, ℕ, zero, suc, ◌<◌, true, List, length, map, count_by, Result}
use Rattle.flow_value.specs.declared.value.Value.{Value}
use Rattle.flow_link.specs.declared.plan.LinkTarget.TheVariants.{Exit}
use Rattle.flow_link.specs.declared.trace.Mark.{Mark}
use Rattle.flow_link.specs.Facts.{facts_in}
use Rattle.flow_link.specs.Layout.{Layout}
use Rattle.flow_link.specs.LinkOk.{LinkOk}
use Rattle.flow_link.specs.Plan.{block_in, link_in}
use Rattle.flow_block.specs.Node.{NodeState}
use Rattle.flow_block.specs.Planned.{links_out}
use Rattle.flow_block_law.specs.NodeLaw.{NodeLaw}
use Rattle.flow_exit.specs.ExitKeeps.{ExitLaw}
use Rattle.flow_input.specs.InputKeeps.{InputLaw}
use Rattle.flow_core.specs.Events.{source_sees, target_sees}
use Rattle.flow_core.specs.State.{NetState, node_at, line_at, input_at, exit_at, ends_of}

module _ {W : Type 0} (layout : Layout W) (meaning : ℕ → Value → Result (List Value) ℕ) where
  pub record NetInOrder (net : NetState) : Type 0 where
    pub node_count : length net.nodes ≡ length layout.blocks
    pub input_count : length net.inputs ≡ count_by (λ block. block.input) layout.blocks
    pub exit_count : length net.exits ≡ length (links_out layout)
    pub line_count : length net.lines ≡ length layout.links
    pub nodes : (b : ℕ) → b < length layout.blocks → NodeLaw layout meaning b (node_at net b)
    pub inputs : (b : ℕ) → b < length layout.blocks → (block_in layout.blocks b).input ≡ true → InputLaw (input_at layout net b)
    pub exits : (l : ℕ) → l < length layout.links → (link_in layout.links l).target ≡ Exit → ExitLaw (exit_at layout net l)
    pub links : (l : ℕ) → l < length layout.links → LinkOk (facts_in layout l) (ends_of layout net l).phase (ends_of layout net l).slot
        (ends_of layout net l).source (ends_of layout net l).target

  -- both ends of a link look at its phase
  abbrev pub looked_at : ℕ → NetState → NetState
  looked_at l net =
      source_sees layout meaning l (line_at net l).phase (link_in layout.links l).source
      (target_sees layout meaning l (line_at net l).phase (link_in layout.links l).target net)

  -- the ends of the first links look
  abbrev pub all_looked : ℕ → NetState → NetState
  all_looked zero net = net
  all_looked (suc n) net = looked_at n (all_looked n net)

abbrev pub journals_of : NetState → List (List Mark)
journals_of net = map (λ (node : NodeState). node.journal) net.nodes
