-- What a contract sees of a task, a watch, an entry or an exit beside its board, and what the turns of a task come to.
use Rattle.std.specs.Prelude.{◌≡◌, List, [], ◌∷◌}
use Rattle.flow_task.specs.declared.board.Board.{Board}
use Rattle.flow_task.specs.declared.at.TaskAt.{TaskAt}
pub use Rattle.flow_task.specs.At.{IsSame, IsSameEntry, IsSameExit, IsSameWatch, Tells, board_at, entry_further, entry_in, entry_same, exit_further, exit_in, exit_same, over_goes_further, over_stays, receiving_board, same_further, sending_board, stays_same, task_at, watch_at, watching_board}

-- all tasks are at this board
abbrev pub AllAt : {W : Type 0} {w : _} {e : _} → Board W → List (TaskAt W w e) → Type 0
AllAt board [] = Unit {0}
AllAt board (at ∷ all) = (board_at at ≡ board) × AllAt board all
