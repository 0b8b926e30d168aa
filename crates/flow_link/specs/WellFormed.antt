-- What holds of each plan by the format: that nothing which is looked for in a draft is wrong, said of the plan's own
-- blocks and links.
use Rattle.std.specs.Prelude.{◌≡◌, ℕ, ◌<◌, ◌≤◌, true, false, List, length, Some}
use Rattle.flow_link.specs.declared.draft.BlockDef.{BlockDef}
use Rattle.flow_link.specs.declared.draft.BlockKind.TheVariants.{Action, Batch}
use Rattle.flow_link.specs.declared.plan.Link.{Link}
use Rattle.flow_link.specs.declared.plan.LinkSource.TheVariants.{Block, Input}
use Rattle.flow_link.specs.declared.plan.LinkTarget.TheVariants.{Port, Exit}
use Rattle.flow_link.specs.Layout.{between_of}
use Rattle.flow_link.specs.Plan.{block_in, link_in, ends_at_port, port_count, is_reserving}
use Rattle.flow_link.specs.PlanFaults.{options_fit, is_in, walks}

module _ {W : Type 0} (blocks : List (BlockDef W)) (links : List Link) where
  pub record IsWellFormed : Type 0 where
    pub few_blocks : length blocks ≤ 256
    pub few_links : length (between_of blocks links) ≤ 1024
    -- no two blocks have one name
    pub names_differ : (a b : ℕ) → a < b → b < length blocks → (block_in blocks a).name ≡ (block_in blocks b).name → ⊥
    -- each block has the options that its kind asks for, in their ranges, and no others
    pub options : (b : ℕ) → b < length blocks → options_fit (block_in blocks b) ≡ true
    -- a batch has room for a group
    pub room : (b capacity size : ℕ) → b < length blocks → (block_in blocks b).kind ≡ Batch
        → (block_in blocks b).capacity ≡ Some capacity → (block_in blocks b).size ≡ Some size → size ≤ capacity
    -- each link into a block enters a port that the block has, and no link leaves an action
    pub enters : (l b port : ℕ) → l < length links → (link_in links l).target ≡ Port b port
        → (b < length blocks) × (port < port_count (block_in blocks b))
    pub leaves : (l b : ℕ) → l < length links → (link_in links l).source ≡ Block b
        → (b < length blocks) × ((block_in blocks b).kind ≡ Action → ⊥)
    -- values are posted to the first port of a block with an input, and received from a block with an output
    pub posted : (l b : ℕ) → l < length links → (link_in links l).source ≡ Input b
        → (ends_at_port b 0 (link_in links l).target ≡ true) × ((block_in blocks b).input ≡ true)
    pub received : (l b : ℕ) → l < length links → (link_in links l).source ≡ Block b → (link_in links l).target ≡ Exit
        → (block_in blocks b).output ≡ true
    -- a link's number of messages is in its range
    pub max : (l : ℕ) → l < length links → is_in 1 2147483647 (link_in links l).max ≡ true
    -- one source leads into one port of a reserving join
    pub one_port : (k l source join p q : ℕ) → k < length links → l < length links → is_reserving (block_in blocks join) ≡ true
        → (link_in links k).source ≡ Block source → (link_in links k).target ≡ Port join p
        → (link_in links l).source ≡ Block source → (link_in links l).target ≡ Port join q → p ≡ q
    -- no walk over links, however long, leads from a block back to it
    pub no_cycle : (steps b : ℕ) → b < length blocks → walks links (length blocks) steps b b ≡ false
