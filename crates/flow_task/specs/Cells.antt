-- The cells of a board, in which the tasks of its blocks tell how these have ended.
use Rattle.std.specs.Prelude.{◌≡◌, ℕ, ◌==◌, Bool, true, false, List, [], ◌∷◌, Option, Some, None, option_map, slice_get}
use Rattle.once_cell.specs.Once.{cell_name}
use Rattle.flow_link.specs.declared.trace.Mark.{Mark}
use Rattle.flow_link.specs.declared.trace.Outcome.{Outcome}
use Rattle.flow_link.specs.declared.trace.Outcome.TheVariants.{Done, Faulted}
use Rattle.flow_block_law.specs.NodeLaw.{stops_at}
use Rattle.flow_task.specs.declared.board.Board.{Board}

-- the cell with this name is that of block b
abbrev pub IsNoteOf : {W : Type 0} → Board W → ℕ → ℕ → Type 0
IsNoteOf board b cell = option_map cell_name (slice_get board.cells.items b) ≡ Some cell

-- the block ended in the same way
abbrev pub is_same_end : Outcome → Outcome → Bool
is_same_end Done Done = true
is_same_end (Faulted one) (Faulted other) = one == other
is_same_end _ _ = false

-- what is known of the end of a block is how it has stopped
abbrev pub is_told : Option Outcome → Option Outcome → Bool
is_told (Some known) (Some how) = is_same_end known how
is_told _ _ = false

-- how the last of the marks says that a block has ended
abbrev pub last_outcome : List Mark → Option Outcome
last_outcome [] = None
last_outcome (last ∷ []) = stops_at last
last_outcome (mark ∷ next ∷ marks) = last_outcome (next ∷ marks)
