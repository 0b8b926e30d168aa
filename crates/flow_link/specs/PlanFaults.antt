-- What is wrong with a draft: which faults stand, and which of them comes first.
use Rattle.std.specs.Prelude.{ℕ, zero, suc, ◌==◌, leb, ltb, Bool, true, false, not, ◌&&◌, ◌||◌, List, [], ◌∷◌, ◌++◌, length, get_or, take, map, find, is_some, is_none, Option, Some, None}
use Rattle.flow_link.specs.declared.draft.BlockDef.{BlockDef}
use Rattle.flow_link.specs.declared.draft.LinkDef.{LinkDef}
use Rattle.flow_link.specs.declared.draft.BlockKind.{BlockKind}
use Rattle.flow_link.specs.declared.kinds.BlockUnit.{BlockUnit}
use Rattle.flow_link.specs.declared.kinds.BlockUnit.TheVariants.{Message, Row, Tuple, Group, Copy, OneCopy}
use Rattle.flow_link.specs.declared.kinds.OptionRule.{OptionRule}
use Rattle.flow_link.specs.declared.plan.Link.{Link}
use Rattle.flow_link.specs.declared.plan.LinkTarget.{LinkTarget}
use Rattle.flow_link.specs.declared.plan.LinkTarget.TheVariants.{Port as at_port, Exit}
use Rattle.flow_link.specs.declared.plan.Place.TheVariants.{Block, Link as at_link}
use Rattle.flow_link.specs.declared.plan.PlanFault.{PlanFault}
use Rattle.flow_link.specs.declared.plan.PlanFault.TheVariants.{Limit, DuplicateName, UnknownBlock, Port, NoOutput, BadOption, CapacityBelowSize, SharedSource, Cycle}
pub use Rattle.flow_link.specs.Kinds.{allows, gives_nothing}
use Rattle.flow_link.specs.Kinds.{unit_of, options_of, most_messages, most_lanes, largest_group, fewest_ports, most_ports}
use Rattle.flow_link.specs.Lists.{every, some, below}
use Rattle.flow_link.specs.Plan.{port_count, is_reserving, block_in, link_in, begins_at, ends_at, ends_at_port, block_named, named_links}

abbrev pub is_between : ℕ → ℕ → ℕ → Bool
is_between low high n = leb low n && leb n high

-- letters, digits, and three signs
abbrev pub is_name_byte : ℕ → Bool
is_name_byte c = is_between 65 90 c || is_between 97 122 c || is_between 48 57 c || c == 95 || c == 45 || c == 46

abbrev pub is_name : List ℕ → Bool
is_name name = is_between 1 64 (length name) && every is_name_byte name

-- whether an option stands with a kind
abbrev pub input_rule : BlockKind → OptionRule
input_rule kind = (options_of kind).input

abbrev pub output_rule : BlockKind → OptionRule
output_rule kind = (options_of kind).output

abbrev pub capacity_rule : BlockKind → OptionRule
capacity_rule kind = (options_of kind).capacity

abbrev pub work_rule : BlockKind → OptionRule
work_rule kind = (options_of kind).work

abbrev pub lanes_rule : BlockKind → OptionRule
lanes_rule kind = (options_of kind).lanes

abbrev pub size_rule : BlockKind → OptionRule
size_rule kind = (options_of kind).size

abbrev pub ports_rule : BlockKind → OptionRule
ports_rule kind = (options_of kind).ports

abbrev pub greedy_rule : BlockKind → OptionRule
greedy_rule kind = (options_of kind).greedy

-- a number that is there is in its range
abbrev pub is_in : ℕ → ℕ → Option ℕ → Bool
is_in low high None = true
is_in low high (Some n) = is_between low high n

module _ {W : Type 0} where
  -- each key stands where its kind has it
  abbrev pub keys_fit : BlockDef W → Bool
  keys_fit block =
      allows (input_rule block.kind) block.input
      && allows (output_rule block.kind) block.output
      && allows (capacity_rule block.kind) (is_some block.capacity)
      && allows (work_rule block.kind) (is_some block.work)
      && allows (lanes_rule block.kind) (is_some block.lanes)
      && allows (size_rule block.kind) (is_some block.size)
      && allows (ports_rule block.kind) (is_some block.ports)
      && allows (greedy_rule block.kind) (is_some block.greedy)

  abbrev pub ranges_fit : BlockDef W → Bool
  ranges_fit block =
      is_in 1 most_messages block.capacity
      && is_in 1 most_lanes block.lanes
      && is_in 1 largest_group block.size
      && is_in fewest_ports most_ports block.ports

  abbrev pub options_fit : BlockDef W → Bool
  options_fit block = is_name block.name && keys_fit block && ranges_fit block

-- there is room for less than one group, where both are there
abbrev pub is_less : Option ℕ → Option ℕ → Bool
is_less (Some capacity) (Some size) = ltb capacity size
is_less (Some capacity) None = false
is_less None size = false

abbrev pub lacks_room_by : BlockUnit → Option ℕ → Option ℕ → Bool
lacks_room_by Message capacity size = false
lacks_room_by Row capacity size = is_less capacity size
lacks_room_by Tuple capacity size = false
lacks_room_by Group capacity size = false
lacks_room_by Copy capacity size = false
lacks_room_by OneCopy capacity size = false

-- a batch has no room for a group
abbrev pub holds_no_group : BlockKind → Option ℕ → Option ℕ → Bool
holds_no_group kind capacity size = lacks_room_by (unit_of kind) capacity size

-- some link leads from one block to another
abbrev pub leads : List Link → ℕ → ℕ → Bool
leads links a b = some (λ link. begins_at a link.source && ends_at b link.target) links

-- a walk over at most this many links leads from one block to another
abbrev pub walks : List Link → ℕ → ℕ → ℕ → ℕ → Bool
walks links blocks zero a b = false
walks links blocks (suc steps) a b =
    leads links a b || some (λ c. leads links a c && walks links blocks steps c b) (below blocks)

-- a link leads from one block into another port of this block than this one
abbrev pub enters_another : (source b port : ℕ) → Link → Bool
enters_another source b port other = begins_at source other.source && ends_at b other.target && not (ends_at_port b port other.target)

-- one block's links lead into two ports of this block
abbrev pub shares_with : ℕ → ℕ → LinkTarget → List Link → Bool
shares_with source b (at_port target port) links = target == b && some (enters_another source b port) links
shares_with source b Exit links = false

abbrev pub leads_beside : List Link → (source b : ℕ) → Link → Bool
leads_beside links source b link = begins_at source link.source && shares_with source b link.target links

-- and lead into two of its ports, whatever else they lead into
abbrev pub leads_twice : List Link → (source b : ℕ) → Bool
leads_twice links source b = some (leads_beside links source b) links

-- a join that reserves, into two of whose ports one block is linked
abbrev pub shares_among : {W : Type 0} → List (BlockDef W) → List Link → ℕ → Bool
shares_among blocks links b = is_reserving (block_in blocks b) && some (λ source. leads_twice links source b) (below (length blocks))

module _ {W : Type 0} (blocks : List (BlockDef W)) (links : List LinkDef) where
  abbrev pub resolved : List Link
  resolved = named_links blocks links

  -- the place of the block that each end of a link names
  abbrev pub sources : List (Option ℕ)
  sources = map (λ link. block_named blocks link.from) links

  abbrev pub targets : List (Option ℕ)
  targets = map (λ link. block_named blocks link.to) links

  abbrev pub lacks_port : Option ℕ → LinkTarget → Bool
  lacks_port (Some b) (at_port target port) = leb (port_count (block_in blocks b)) port
  lacks_port _ _ = false

  abbrev pub lacks_output : Option ℕ → Bool
  lacks_output None = false
  lacks_output (Some b) = gives_nothing (block_in blocks b).kind

  abbrev pub shares_a_source : ℕ → Bool
  shares_a_source b = shares_among blocks resolved b

  -- this fault stands
  abbrev pub stands : PlanFault → Bool
  stands Limit = ltb 256 (length blocks) || ltb 1024 (length links)
  stands (DuplicateName b) = is_some (block_named (take b blocks) (block_in blocks b).name)
  stands (UnknownBlock l) = is_none (get_or sources l (Some 0)) || is_none (get_or targets l (Some 0))
  stands (Port l) = lacks_port (get_or targets l None) (link_in resolved l).target
  stands (NoOutput l) = lacks_output (get_or sources l None)
  stands (BadOption (Block b)) = not (options_fit (block_in blocks b))
  stands (BadOption (at_link l)) = not (is_in 1 2147483647 (link_in resolved l).max)
  stands (CapacityBelowSize b) = holds_no_group (block_in blocks b).kind (block_in blocks b).capacity (block_in blocks b).size
  stands (SharedSource b) = shares_a_source b
  stands Cycle = some (λ b. walks resolved (length blocks) (length blocks) b b) (below (length blocks))

  -- the faults that could stand, in the order in which they are looked for
  abbrev pub faults_in_order : List PlanFault
  faults_in_order =
      (Limit ∷ [])
      ++ map DuplicateName (below (length blocks))
      ++ map UnknownBlock (below (length links))
      ++ map Port (below (length links))
      ++ map NoOutput (below (length links))
      ++ map (λ b. BadOption (Block b)) (below (length blocks))
      ++ map (λ l. BadOption (at_link l)) (below (length links))
      ++ map CapacityBelowSize (below (length blocks))
      ++ map SharedSource (below (length blocks))
      ++ (Cycle ∷ [])

  -- the first fault, and none where the draft is a plan
  abbrev pub first_plan_fault : Option PlanFault
  first_plan_fault = find stands faults_in_order
