-- Journals that go on, by the numbers of their tasks.
use Rattle.std.specs.Prelude.{ℕ, ◌==◌, if◌then◌else◌, List, [], ◌∷◌}
use Rattle.flow_link.specs.declared.trace.Mark.{Mark}
use Rattle.flow_poll.specs.Turns.{Extends}
use Rattle.flow_board.specs.Parts.{marks_in, task_number}
use Rattle.flow_task.specs.declared.numbered.Task.{Task}

-- each journal begins with what is named for its number
abbrev pub EachBegins : (ℕ → List Mark) → List (ℕ × List Mark) → Type 0
EachBegins begun [] = Unit {0}
EachBegins begun (one ∷ more) = Extends (begun one.0) one.1 × EachBegins begun more

-- whatever is named for the numbers with which all of these journals begin, this one begins with what is named for its number
abbrev pub GoesOn : List (ℕ × List Mark) → ℕ → List Mark → Type 0
GoesOn came number journal = (begun : ℕ → List Mark) → EachBegins begun came → Extends (begun number) journal

module _ {W : Type 0} {w : _} {e : _} where
  -- the number of each task, with its journal
  abbrev pub journals : List (Task W w e) → List (ℕ × List Mark)
  journals [] = []
  journals (task ∷ tasks) = (task_number task, marks_in task) ∷ journals tasks

  -- whatever the old journals begin with, by their numbers, the new ones begin with too. So where no number comes twice, each journal
  -- begins with that of the task of the same number before: take `journal_at` of the old ones
  abbrev pub AllGoOn : List (Task W w e) → List (Task W w e) → Type 0
  AllGoOn old new = (begun : ℕ → List Mark) → EachBegins begun (journals old) → EachBegins begun (journals new)
