-- Where the links of a plan lead from and to.
use Rattle.std.specs.Prelude.{◌≡◌, ℕ, ◌<◌, true, length, None}
use Rattle.flow_link.specs.declared.plan.LinkSource.TheVariants.{Block, Input}
use Rattle.flow_link.specs.declared.plan.LinkTarget.TheVariants.{Port}
use Rattle.flow_link.specs.Layout.{Layout, IsLaidOut}
use Rattle.flow_link.specs.Plan.{block_in, link_in}

module _ {W : Type 0} (layout : Layout W) where
  -- a link leads from a block or input that is there to a block that is there
  pub record LeadsWell : Type 0 where
    pub from_block : (l s : ℕ) → l < length layout.links → (link_in layout.links l).source ≡ Block s → s < length layout.blocks
    pub from_input : (l b : ℕ) → l < length layout.links → (link_in layout.links l).source ≡ Input b → b < length layout.blocks
    -- an input's link begins at a block that is one, passes its end on, and carries any number of any messages
    pub from_inputs : (l b : ℕ) → l < length layout.links → (link_in layout.links l).source ≡ Input b → (block_in layout.blocks b).input ≡ true
    pub inputs_pass : (l b : ℕ) → l < length layout.links → (link_in layout.links l).source ≡ Input b → (link_in layout.links l).propagate ≡ true
    pub inputs_unlimited : (l b : ℕ) → l < length layout.links → (link_in layout.links l).source ≡ Input b → (link_in layout.links l).max ≡ None
    pub to_block : (l t p : ℕ) → l < length layout.links → (link_in layout.links l).target ≡ Port t p → t < length layout.blocks
    -- no two links lead from one input
    pub one_input_link : (k l b : ℕ) → k < length layout.links → l < length layout.links
        → (link_in layout.links k).source ≡ Input b → (link_in layout.links l).source ≡ Input b → k ≡ l

-- the links of a plan lead well
abbrev pub LinksLead : Type 0 → Type 0
LinksLead W = (layout : Layout W) → IsLaidOut layout.blocks layout.links → LeadsWell layout
