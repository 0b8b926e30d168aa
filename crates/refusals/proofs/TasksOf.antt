-- Tasks of one board, by their places.
use Rattle.std.proofs.Common.{◌≡◌, ℕ, zero, suc, ◌<◌, List, [], ◌∷◌, length, slice_index_or, set, ap, ◌∙◌, arith}
use Rattle.flow_board.specs.Parts.{AllTasksOf, board_of}
use Rattle.flow_task.specs.declared.board.Board.{Board}
use Rattle.flow_task.specs.declared.numbered.Task.{Task}

module _ {W : Type 0} {w : _} {e : _} (board : Board W) where
  -- the task at a place
  pub task_of : (tasks : List (Task W w e)) (k : ℕ) (task : Task W w e) → AllTasksOf board tasks → k < length tasks
      → task ≡ slice_index_or tasks k task → board_of task ≡ board
  task_of [] k task all low is = absurd (omega (arith, low))
  task_of (first ∷ tasks) zero task all low is = ap board_of is ∙ all.0
  task_of (first ∷ tasks) (suc k) task all low is = task_of tasks k task all.1 (omega (arith, low)) is

  tasks_set : (tasks : List (Task W w e)) (k : ℕ) (task : Task W w e) → AllTasksOf board tasks → board_of task ≡ board
      → AllTasksOf board (set tasks k task)
  tasks_set [] k task all its = tt
  tasks_set (first ∷ tasks) zero task all its = (its, all.1)
  tasks_set (first ∷ tasks) (suc k) task all its = (all.0, tasks_set tasks k task all.1 its)

  -- the one at a place is turned
  pub tasks_turned : (tasks : List (Task W w e)) (k : ℕ) (old new : Task W w e) → AllTasksOf board tasks → k < length tasks
      → old ≡ slice_index_or tasks k old → board_of new ≡ board_of old → AllTasksOf board (set tasks k new)
  tasks_turned tasks k old new all low is same = tasks_set tasks k new all (same ∙ task_of tasks k old all low is)
