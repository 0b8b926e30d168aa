-- How the ends of the first links of a network are dealt out: each to the block, input or exit at which it is, in the order of the
-- links.
use Rattle.std.specs.Prelude.{ℕ, Bool, ◌<◌, ◌≤◌, List, length, map, filter, slice_index_or}
use Rattle.flow_link.specs.Lists.{below}
use Rattle.flow_link.specs.Layout.{Layout}
use Rattle.flow_link.specs.Plan.{block_in, port_count}
use Rattle.flow_block.specs.Planned.{is_out_of, is_into, leads_out}
use Rattle.flow_task.specs.Inputs.{begins_at_input}

-- what is said of those links, among the first so many, that pass a test
abbrev pub said_of : {V : Type 0} → (ℕ → V) → (ℕ → Bool) → ℕ → List V
said_of say test n = map say (filter test (below n))

module _ {W : Type 0} (layout : Layout W) {V : Type 0} (say : ℕ → V) (n : ℕ) where
  -- of those out of each block, and out of inputs
  abbrev pub outs_dealt : List (List V)
  outs_dealt = map (λ b. said_of say (is_out_of layout b) n) (below (length layout.blocks))

  abbrev pub inputs_dealt : List V
  inputs_dealt = said_of say (begins_at_input layout) n

  -- of those into each port of each block, and of those to exits
  abbrev pub ports_dealt : ℕ → List (List V)
  ports_dealt b = map (λ p. said_of say (is_into layout b p) n) (below (port_count (block_in layout.blocks b)))

  abbrev pub ins_dealt : List (List (List V))
  ins_dealt = map ports_dealt (below (length layout.blocks))

  abbrev pub exits_dealt : List V
  exits_dealt = said_of say (leads_out layout) n

-- each of these lists has room for so many elements
abbrev pub HasRooms : {L : Type 0} → (L → ℕ) → (ℕ → ℕ) → List L → Type 0
HasRooms {L} capacity many lists = (i : ℕ) (d : L) → i < length lists → many i ≤ capacity (slice_index_or lists i d)

-- the same of lists of lists
abbrev pub HasRoomsIn : {B L : Type 0} → (B → List L) → (L → ℕ) → (ℕ → ℕ → ℕ) → List B → Type 0
HasRoomsIn {B} items capacity many lists =
    (i : ℕ) (d : B) → i < length lists → HasRooms capacity (many i) (items (slice_index_or lists i d))
