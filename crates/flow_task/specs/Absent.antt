-- Which parts of a scattered network are there.
use Rattle.std.specs.Prelude.{◌≡◌, ◌≢◌, ℕ, ◌<◌, ◌≤◌, ◌+◌, List, length, map, slice_index_or}
use Rattle.flow_link.specs.Lists.{below, numbers_from}
use Rattle.flow_link.specs.Planned.{layout_of}
use Rattle.flow_block.specs.Planned.{links_out}
use Rattle.flow_task.specs.Numbers.{entry_count, task_count}
use Rattle.flow_task.specs.Parts.{AllEntriesOf, AllExitsOf, AllTasksOf, entry_number, exit_number, task_number}
use Rattle.flow_task.specs.declared.board.Board.{Board}
use Rattle.flow_task.specs.declared.numbered.Entry.{Entry}
use Rattle.flow_task.specs.declared.numbered.Exit.{Exit}
use Rattle.flow_task.specs.declared.numbered.Task.{Task}

-- none of these has the number, and no two of them have one number
abbrev pub NoneHas : {A : Type 0} → (A → ℕ) → ℕ → List A → Type 0
NoneHas {A} number n parts = (i : ℕ) (d : A) → i < length parts → number (slice_index_or parts i d) ≢ n

abbrev pub AllDiffer : {A : Type 0} → (A → ℕ) → List A → Type 0
AllDiffer {A} number parts =
    (i j : ℕ) (d : A) → i < j → j < length parts → number (slice_index_or parts i d) ≢ number (slice_index_or parts j d)

-- some have each of the numbers from a first one on, before another
abbrev pub HasAll : {A : Type 0} → (A → ℕ) → ℕ → ℕ → List A → Type 0
HasAll number first n parts = (k : ℕ) → first ≤ k → k < n → NoneHas number k parts → ⊥

-- none has this number, which is from a first one on, and before another
pub record IsGap {A : Type 0} (number : A → ℕ) (first end : ℕ) (parts : List A) (n : ℕ) : Type 0 where
  pub from : first ≤ n
  pub low : n < end
  pub none : NoneHas number n parts

-- how many parts there are to be
abbrev pub part_count : {W : Type 0} → Board W → ℕ
part_count board =
    task_count (layout_of board.rest.plan) board.opens.items + entry_count (layout_of board.rest.plan) board.opens.items
    + length (links_out (layout_of board.rest.plan))

module _ {W : Type 0} {w : _} {e : _} (board : Board W) (tasks : List (Task W w e)) (entries : List (Entry W w e)) (exits : List (Exit W w e)) where
  -- all parts are there, in the order of their numbers
  pub record AllThere : Type 0 where
    pub tasks_are : map task_number tasks ≡ below (task_count (layout_of board.rest.plan) board.opens.items)
    pub entries_are : map entry_number entries
        ≡ numbers_from (task_count (layout_of board.rest.plan) board.opens.items) (entry_count (layout_of board.rest.plan) board.opens.items)
    pub exits_are : map exit_number exits
        ≡ numbers_from (task_count (layout_of board.rest.plan) board.opens.items + entry_count (layout_of board.rest.plan) board.opens.items)
        (length (links_out (layout_of board.rest.plan)))

  pub record NoTwoAlike : Type 0 where
    pub tasks_differ : AllDiffer task_number tasks
    pub entries_differ : AllDiffer entry_number entries
    pub exits_differ : AllDiffer exit_number exits

  pub record IsAbsent (n : ℕ) : Type 0 where
    pub no_task : NoneHas task_number n tasks
    pub no_entry : NoneHas entry_number n entries
    pub no_exit : NoneHas exit_number n exits

  abbrev pub IsThere : ℕ → Type 0
  IsThere n = IsAbsent n → ⊥

-- parts in another order are still of their board, whichever it is
abbrev pub TasksStay : {W : Type 0} {w : _} {e : _} → List (Task W w e) → List (Task W w e) → Type 0
TasksStay {W} old new = (board : Board W) → AllTasksOf board old → AllTasksOf board new

abbrev pub EntriesStay : {W : Type 0} {w : _} {e : _} → List (Entry W w e) → List (Entry W w e) → Type 0
EntriesStay {W} old new = (board : Board W) → AllEntriesOf board old → AllEntriesOf board new

abbrev pub ExitsStay : {W : Type 0} {w : _} {e : _} → List (Exit W w e) → List (Exit W w e) → Type 0
ExitsStay {W} old new = (board : Board W) → AllExitsOf board old → AllExitsOf board new
