-- How far the inputs of a network have become parts of its board.
use Rattle.std.specs.Prelude.{◌≡◌, ℕ, ◌+◌, List, length, map}
use Rattle.flow_link.specs.Lists.{below, numbers_from}
use Rattle.flow_link.specs.Planned.{layout_of}
use Rattle.flow_task.specs.Numbers.{closed_before, open_before, task_count}
use Rattle.flow_task.specs.Parts.{AllEntriesOf, AllTasksOf, entry_number, task_number}
use Rattle.flow_task.specs.Untouched.{AllUntouched}
use Rattle.flow_task.specs.declared.board.Board.{Board}
use Rattle.flow_task.specs.declared.numbered.Entry.{Entry}
use Rattle.flow_task.specs.declared.numbered.Task.{Task}

-- behind the tasks of the blocks stand those of the first inputs that are turned, and the entries among them are there
pub record InputsMade {W : Type 0} {w : _} {e : _} (board : Board W) (place : ℕ) (tasks : List (Task W w e)) (entries : List (Entry W w e)) : Type 0 where
  pub of : AllTasksOf board tasks
  pub numbers : map task_number tasks
      ≡ below (length (layout_of board.rest.plan).blocks + closed_before (layout_of board.rest.plan) board.opens.items place)
  pub entries_of : AllEntriesOf board entries
  pub entry_numbers : map entry_number entries
      ≡ numbers_from (task_count (layout_of board.rest.plan) board.opens.items) (open_before (layout_of board.rest.plan) board.opens.items place)
  pub untouched : AllUntouched board entries
