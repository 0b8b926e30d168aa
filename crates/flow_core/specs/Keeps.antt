-- Which networks run, and what such a network keeps whatever happens: its blocks, inputs and exits are in order, each link is, and
-- both ends of each link have seen its phase.
use Rattle.std.specs.Prelude.{◌≡◌, ℕ, ◌<◌, true, List, length, count_by, Result}
use Rattle.flow_value.specs.declared.value.Value.{Value}
use Rattle.flow_link.specs.declared.plan.LinkTarget.TheVariants.{Exit}
use Rattle.flow_link.specs.Facts.{facts_in}
use Rattle.flow_link.specs.Layout.{Layout}
use Rattle.flow_link.specs.LeadsWell.{LeadsWell}
use Rattle.flow_link.specs.LinkOk.{LinkOk}
use Rattle.flow_link.specs.Looks.{Seen}
use Rattle.flow_link.specs.Plan.{block_in, link_in}
use Rattle.flow_link.specs.WellFormed.{IsWellFormed}
use Rattle.flow_input.specs.InputKeeps.{InputLaw}
use Rattle.flow_block_law.specs.NodeLaw.{NodeLaw}
use Rattle.flow_block.specs.Planned.{links_out}
use Rattle.flow_exit.specs.ExitKeeps.{ExitLaw}
use Rattle.flow_core.specs.State.{NetState, node_at, input_at, exit_at, ends_of}

module _ {W : Type 0} (layout : Layout W) where
  -- a network of blocks of any kinds, linked in any way that a plan allows
  pub record IsRun : Type 0 where
    pub leads : LeadsWell layout
    pub well_formed : IsWellFormed layout.blocks layout.links

  -- a link is in order, and a look of either end would find nothing new
  pub record LineKeeps (net : NetState) (l : ℕ) : Type 0 where
    pub in_order : LinkOk (facts_in layout l) (ends_of layout net l).phase (ends_of layout net l).slot
        (ends_of layout net l).source (ends_of layout net l).target
    pub seen : Seen (ends_of layout net l).phase (ends_of layout net l).source (ends_of layout net l).target

  pub record NetKeeps (meaning : ℕ → Value → Result (List Value) ℕ) (net : NetState) : Type 0 where
    pub node_count : length net.nodes ≡ length layout.blocks
    pub input_count : length net.inputs ≡ count_by (λ block. block.input) layout.blocks
    pub exit_count : length net.exits ≡ length (links_out layout)
    pub line_count : length net.lines ≡ length layout.links
    pub nodes : (b : ℕ) → b < length layout.blocks → NodeLaw layout meaning b (node_at net b)
    pub inputs : (b : ℕ) → b < length layout.blocks → (block_in layout.blocks b).input ≡ true → InputLaw (input_at layout net b)
    pub exits : (l : ℕ) → l < length layout.links → (link_in layout.links l).target ≡ Exit → ExitLaw (exit_at layout net l)
    pub lines : (l : ℕ) → l < length layout.links → LineKeeps net l
