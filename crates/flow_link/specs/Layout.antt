-- The layout of a network: its blocks and its links, each known by its place.
use Rattle.std.specs.Prelude.{◌≡◌, ℕ, suc, cond, Bool, true, false, ltb, ◌&&◌, List, [], ◌∷◌, ◌++◌, length, take, ◌-◌, None}
use Rattle.flow_value.specs.declared.when.When.TheVariants.{Any}
use Rattle.flow_link.specs.declared.draft.BlockDef.{BlockDef}
use Rattle.flow_link.specs.declared.plan.Link.{Link}
use Rattle.flow_link.specs.declared.plan.LinkSource.{LinkSource}
use Rattle.flow_link.specs.declared.plan.LinkSource.TheVariants.{Block, Input}
use Rattle.flow_link.specs.declared.plan.LinkTarget.{LinkTarget}
use Rattle.flow_link.specs.declared.plan.LinkTarget.TheVariants.{Port, Exit}
use Rattle.flow_link.specs.Lists.{every}

pub record Layout (W : Type 0) : Type 0 where
  pub blocks : List (BlockDef W)
  -- those between blocks, then those of the inputs, then those of the exits
  pub links : List Link

-- the links of inputs, and of exits, in the order of their blocks, which are numbered from a first one on
abbrev pub input_link : ℕ → Link
input_link b = record { source = Input b; target = Port b 0; when = Any; max = None; propagate = true }

abbrev pub input_links : {W : Type 0} → ℕ → List (BlockDef W) → List Link
input_links b [] = []
input_links b (block ∷ blocks) = cond block.input (input_link b ∷ []) [] ++ input_links (suc b) blocks

abbrev pub exit_link : ℕ → Link
exit_link b = record { source = Block b; target = Exit; when = Any; max = None; propagate = true }

abbrev pub exit_links : {W : Type 0} → ℕ → List (BlockDef W) → List Link
exit_links b [] = []
exit_links b (block ∷ blocks) = cond block.output (exit_link b ∷ []) [] ++ exit_links (suc b) blocks

-- the link leads from one of the first so many blocks to another
abbrev pub joins : ℕ → LinkSource → LinkTarget → Bool
joins count (Block source) (Port target port) = ltb source count && ltb target count
joins count _ _ = false

abbrev pub is_between_blocks : ℕ → Link → Bool
is_between_blocks count link = joins count link.source link.target

-- the links that lead from or to the caller
abbrev pub outer_links : {W : Type 0} → List (BlockDef W) → List Link
outer_links blocks = input_links 0 blocks ++ exit_links 0 blocks

-- those before them
abbrev pub between_of : {W : Type 0} → List (BlockDef W) → List Link → List Link
between_of blocks links = take (length links - length (outer_links blocks)) links

-- the numbers of links: first those between blocks, as a draft has them, then the inputs', then the exits'
pub record IsLaidOut {W : Type 0} (blocks : List (BlockDef W)) (links : List Link) : Type 0 where
  pub in_order : links ≡ between_of blocks links ++ outer_links blocks
  pub lead : every (is_between_blocks (length blocks)) (between_of blocks links) ≡ true
