-- The numbers of the parts of a scattered network: its blocks, then the inputs that are turned, then the lanes of blocks that have
-- several, then the inputs that are entries, then the exits, each in the order of the network.
use Rattle.std.specs.Prelude.{ℕ, ◌+◌, Bool, false, not, leb, ltb, ◌==◌, ◌&&◌, List, length, filter, get_or}
use Rattle.flow_link.specs.Lists.{below}
use Rattle.flow_link.specs.Layout.{Layout}
use Rattle.flow_block.specs.Planned.{exit_place}
use Rattle.flow_task.specs.Inputs.{begins_at_input}
use Rattle.flow_task.specs.Lanes.{lane_count}

-- the place of an input among all, by the link that begins there
abbrev pub place_in : {W : Type 0} → Layout W → ℕ → ℕ
place_in layout l = length (filter (begins_at_input layout) (below l))

module _ {W : Type 0} (layout : Layout W) (opens : List Bool) where
  -- whether it is an entry, and how many before it are, and are not
  abbrev pub is_open : ℕ → Bool
  is_open q = get_or opens q false

  abbrev pub is_closed : ℕ → Bool
  is_closed q = not (is_open q)

  abbrev pub open_before : ℕ → ℕ
  open_before q = length (filter is_open (below q))

  abbrev pub closed_before : ℕ → ℕ
  closed_before q = length (filter is_closed (below q))

  -- the blocks and the inputs that are turned; with the lanes, all tasks
  abbrev pub turned_count : ℕ
  turned_count = length layout.blocks + closed_before (length opens)

  abbrev pub task_count : ℕ
  task_count = turned_count + lane_count layout

  abbrev pub entry_count : ℕ
  entry_count = open_before (length opens)

  -- the number of an input that is turned, by its link, that of an entry and that of an exit
  abbrev pub is_input_number : ℕ → ℕ → Bool
  is_input_number l n = is_closed (place_in layout l) && (length layout.blocks + closed_before (place_in layout l)) == n

  -- that of a lane
  abbrev pub is_lane_number : ℕ → Bool
  is_lane_number n = leb turned_count n && ltb n task_count

  abbrev pub is_entry_number : ℕ → ℕ → Bool
  is_entry_number l n = is_open (place_in layout l) && (task_count + open_before (place_in layout l)) == n

  abbrev pub is_exit_number : ℕ → ℕ → Bool
  is_exit_number l n = (task_count + entry_count + exit_place layout l) == n
