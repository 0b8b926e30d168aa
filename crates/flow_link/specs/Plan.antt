-- What a plan says of its blocks and links.
use Rattle.std.specs.Prelude.{ℕ, ◌+◌, ◌==◌, Bool, false, cond, not, ◌&&◌, List, [], ◌∷◌, ◌++◌, get_or, unwrap_or, is_none, position, Option, None}
use Rattle.std.specs.Str.{bytes_eq}
use Rattle.flow_value.specs.declared.when.When.TheVariants.{Any}
pub use Rattle.flow_link.specs.Kinds.{has_work, is_broadcast, is_write_once, is_one_taker, ports_by_kind, reserves_by_kind}
use Rattle.flow_link.specs.Layout.{outer_links}
use Rattle.flow_link.specs.declared.draft.BlockDef.{BlockDef}
use Rattle.flow_link.specs.declared.draft.LinkDef.{LinkDef}
use Rattle.flow_link.specs.declared.draft.BlockKind.TheVariants.{Buffer}
use Rattle.flow_link.specs.declared.plan.Link.{Link}
use Rattle.flow_link.specs.declared.plan.LinkSource.{LinkSource}
use Rattle.flow_link.specs.declared.plan.LinkSource.TheVariants.{Block, Input}
use Rattle.flow_link.specs.declared.plan.LinkTarget.{LinkTarget}
use Rattle.flow_link.specs.declared.plan.LinkTarget.TheVariants.{Port, Exit}

abbrev pub port_count : {W : Type 0} → BlockDef W → ℕ
port_count block = ports_by_kind block.kind block.ports

abbrev pub is_reserving : {W : Type 0} → BlockDef W → Bool
is_reserving block = reserves_by_kind block.kind block.greedy

-- what stands at a place where nothing is
abbrev pub no_block : {W : Type 0} → BlockDef W
no_block = record { name = []; kind = Buffer; input = false; output = false; capacity = None; work = None; lanes = None; size = None; ports = None; greedy = None }

abbrev pub no_link : Link
no_link = record { source = Input 0; target = Exit; when = Any; max = None; propagate = false }

abbrev pub block_in : {W : Type 0} → List (BlockDef W) → ℕ → BlockDef W
block_in blocks b = get_or blocks b no_block

abbrev pub link_in : List Link → ℕ → Link
link_in links l = get_or links l no_link

-- the link begins at this block
abbrev pub begins_at : ℕ → LinkSource → Bool
begins_at b (Block n) = n == b
begins_at b (Input _) = false

-- the link ends at this block, and at this port of it
abbrev pub ends_at : ℕ → LinkTarget → Bool
ends_at b (Port n _) = n == b
ends_at b Exit = false

abbrev pub ends_at_port : ℕ → ℕ → LinkTarget → Bool
ends_at_port b p (Port n q) = n == b && q == p
ends_at_port b p Exit = false

-- the target takes each message when it is offered
abbrev pub takes_at_once : {W : Type 0} → BlockDef W → Bool
takes_at_once block = is_none block.capacity && not (is_write_once block.kind) && not (is_reserving block)

abbrev pub is_steady : {W : Type 0} → List (BlockDef W) → LinkTarget → Bool
is_steady blocks (Port b _) = takes_at_once (block_in blocks b)
is_steady blocks Exit = false

-- the block's only link in is this one, an input's link counted, and it does not reserve
abbrev pub links_into : ℕ → List Link → ℕ
links_into b [] = 0
links_into b (link ∷ links) = cond (ends_at b link.target) 1 0 + links_into b links

abbrev pub is_sole : {W : Type 0} → List (BlockDef W) → List Link → LinkTarget → Bool
is_sole blocks links (Port b _) = links_into b links == 1 && not (is_reserving (block_in blocks b))
is_sole blocks links Exit = false

-- the link that a draft's link becomes, where both its names are known
abbrev pub block_named : {W : Type 0} → List (BlockDef W) → List ℕ → Option ℕ
block_named blocks name = position (λ block. bytes_eq block.name name) blocks

abbrev pub link_between : LinkDef → ℕ → ℕ → Link
link_between link source target = record { source = Block source; target = Port target (unwrap_or link.port 0); when = unwrap_or link.when Any; max = link.max; propagate = link.propagate }

abbrev pub named_link : {W : Type 0} → List (BlockDef W) → LinkDef → Link
named_link blocks link = link_between link (unwrap_or (block_named blocks link.from) 0) (unwrap_or (block_named blocks link.to) 0)

abbrev pub named_links : {W : Type 0} → List (BlockDef W) → List LinkDef → List Link
named_links blocks [] = []
named_links blocks (link ∷ links) = named_link blocks link ∷ named_links blocks links

-- the links of a plan by their numbers: those of the draft, then one for each input, then one for each exit
abbrev pub planned_links : {W : Type 0} → List (BlockDef W) → List LinkDef → List Link
planned_links blocks links = named_links blocks links ++ outer_links blocks
