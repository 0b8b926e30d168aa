-- Parts of one board, in part and together.
use Rattle.std.proofs.Common.{◌≡◌, ℕ, zero, suc, ◌<◌, List, [], ◌∷◌, ◌++◌, length, slice_index_or, set, take, drop, ap, sym, subst, ◌∙◌, arith}
use Rattle.flow_board.specs.Parts.{AllEntriesOf, AllExitsOf, AllTasksOf, board_of}
use Rattle.flow_task.specs.declared.board.Board.{Board}
use Rattle.flow_task.specs.declared.numbered.Entry.{Entry}
use Rattle.flow_task.specs.declared.numbered.Exit.{Exit}
use Rattle.flow_task.specs.declared.numbered.Task.{Task}

module _ {W : Type 0} {w : _} {e : _} (board : Board W) where
  -- the task at a place
  pub task_of : (tasks : List (Task W w e)) (k : ℕ) (task : Task W w e) → AllTasksOf board tasks → k < length tasks
      → task ≡ slice_index_or tasks k task → board_of task ≡ board
  task_of [] k task all low is = absurd (omega (arith, low))
  task_of (first ∷ tasks) zero task all low is = ap board_of is ∙ all.0
  task_of (first ∷ tasks) (suc k) task all low is = task_of tasks k task all.1 (omega (arith, low)) is

  tasks_set : (tasks : List (Task W w e)) (k : ℕ) (task : Task W w e) → AllTasksOf board tasks → board_of task ≡ board
      → AllTasksOf board (set tasks k task)
  tasks_set [] k task all its = tt
  tasks_set (first ∷ tasks) zero task all its = (its, all.1)
  tasks_set (first ∷ tasks) (suc k) task all its = (all.0, tasks_set tasks k task all.1 its)

  -- the one at a place is turned
  pub tasks_turned : (tasks : List (Task W w e)) (k : ℕ) (old new : Task W w e) → AllTasksOf board tasks → k < length tasks
      → old ≡ slice_index_or tasks k old → board_of new ≡ board_of old → AllTasksOf board (set tasks k new)
  tasks_turned tasks k old new all low is same = tasks_set tasks k new all (same ∙ task_of tasks k old all low is)

  tasks_before : (k : ℕ) (tasks : List (Task W w e)) → AllTasksOf board tasks → AllTasksOf board (take k tasks)
  tasks_before zero tasks all = tt
  tasks_before (suc k) [] all = tt
  tasks_before (suc k) (task ∷ tasks) all = (all.0, tasks_before k tasks all.1)

  tasks_behind : (k : ℕ) (tasks : List (Task W w e)) → AllTasksOf board tasks → AllTasksOf board (drop k tasks)
  tasks_behind zero tasks all = all
  tasks_behind (suc k) [] all = tt
  tasks_behind (suc k) (task ∷ tasks) all = tasks_behind k tasks all.1

  tasks_with : (tasks others : List (Task W w e)) → AllTasksOf board tasks → AllTasksOf board others → AllTasksOf board (tasks ++ others)
  tasks_with [] others all more = more
  tasks_with (task ∷ tasks) others all more = (all.0, tasks_with tasks others all.1 more)

  pub entries_with : (entries others : List (Entry W w e)) → AllEntriesOf board entries → AllEntriesOf board others
      → AllEntriesOf board (entries ++ others)
  entries_with [] others all more = more
  entries_with (entry ∷ entries) others all more = (all.0, entries_with entries others all.1 more)

  pub exits_with : (exits others : List (Exit W w e)) → AllExitsOf board exits → AllExitsOf board others → AllExitsOf board (exits ++ others)
  exits_with [] others all more = more
  exits_with (exit ∷ exits) others all more = (all.0, exits_with exits others all.1 more)

  -- the first ones, and the others
  pub front_of : (k : ℕ) (tasks front : List (Task W w e)) → front ≡ take k tasks → AllTasksOf board tasks → AllTasksOf board front
  front_of k tasks front is all = subst (AllTasksOf board) (sym is) (tasks_before k tasks all)

  pub back_of : (k : ℕ) (tasks back : List (Task W w e)) → back ≡ drop k tasks → AllTasksOf board tasks → AllTasksOf board back
  back_of k tasks back is all = subst (AllTasksOf board) (sym is) (tasks_behind k tasks all)

  -- both together
  pub whole_of : (front back whole : List (Task W w e)) → whole ≡ front ++ back → AllTasksOf board front → AllTasksOf board back
      → AllTasksOf board whole
  whole_of front back whole is first others = subst (AllTasksOf board) (sym is) (tasks_with front back first others)
