-- Tasks come into a round and out of it, and their journals go on.
use Rattle.std.proofs.Common.{◌≡◌, ℕ, List, [], ◌∷◌, ◌++◌, Option, None, Some, sym, subst, ap, ◌∙◌}
use Rattle.flow_link.specs.declared.trace.Mark.{Mark}
use Rattle.flow_poll.specs.Turns.{Extends}
use Rattle.flow_poll.proofs.EachGoes.{extends_further}
use Rattle.flow_board.specs.Parts.{AllTasksOf, board_of, marks_in, task_number}
use Rattle.flow_task.specs.declared.board.Board.{Board}
use Rattle.flow_task.specs.declared.numbered.Task.{Task}
use Rattle.flow_crew.specs.Journals.{EachBegins, journals}
use Rattle.flow_crew.specs.Rounds.{AllIn, IsIn}

abbrev from : {W : Type 0} → Board W → Option (Board W) → Board W
from other (Some board) = board
from other None = other

module _ {W : Type 0} {w : _} {e : _} where
  -- a task is turned
  pub turned_in : (board : Option (Board W)) (came : List (ℕ × List Mark)) (old new : Task W w e) → board_of new ≡ board_of old
      → task_number new ≡ task_number old → Extends (marks_in old) (marks_in new) → IsIn board came old → IsIn board came new
  turned_in board came old new of number extends is = (
    is.0 ∙ ap (λ (b : Board W). Some b) (sym of),
    λ begun each. subst (λ (n : ℕ). Extends (begun n) (marks_in new)) (sym number)
        (extends_further (begun (task_number old)) (marks_in old) (marks_in new) (is.1 begun each) extends),
  )

  -- one more
  pub all_pushed : (board : Option (Board W)) (came : List (ℕ × List Mark)) (tasks : List (Task W w e)) (task : Task W w e)
      → AllIn board came tasks → IsIn board came task → AllIn board came (tasks ++ task ∷ [])
  all_pushed board came [] task all is = (is, tt)
  all_pushed board came (first ∷ tasks) task all is = (all.0, all_pushed board came tasks task all.1 is)

  -- all but the last, and the last
  pub all_before : (board : Option (Board W)) (came : List (ℕ × List Mark)) (tasks : List (Task W w e)) (task : Task W w e)
      → AllIn board came (tasks ++ task ∷ []) → AllIn board came tasks
  all_before board came [] task all = tt
  all_before board came (first ∷ tasks) task all = (all.0, all_before board came tasks task all.1)

  pub last_in : (board : Option (Board W)) (came : List (ℕ × List Mark)) (tasks : List (Task W w e)) (task : Task W w e)
      → AllIn board came (tasks ++ task ∷ []) → IsIn board came task
  last_in board came [] task all = all.0
  last_in board came (first ∷ tasks) task all = last_in board came tasks task all.1

  -- tasks come in
  some_enter : (board : Board W) (came : List (ℕ × List Mark)) (tasks : List (Task W w e))
      → ((begun : ℕ → List Mark) → EachBegins begun came → EachBegins begun (journals tasks)) → AllTasksOf board tasks
      → AllIn (Some board) came tasks
  some_enter board came [] among all = tt
  some_enter board came (task ∷ tasks) among all = (
    (ap (λ (b : Board W). Some b) (sym all.0), λ begun each. (among begun each).0),
    some_enter board came tasks (λ begun each. (among begun each).1) all.1,
  )

  pub all_enter : (board : Board W) (tasks : List (Task W w e)) → AllTasksOf board tasks → AllIn (Some board) (journals tasks) tasks
  all_enter board tasks all = some_enter board (journals tasks) tasks (λ begun each. each) all

  -- tasks come out
  pub all_of : (board : Board W) (came : List (ℕ × List Mark)) (tasks : List (Task W w e)) → AllIn (Some board) came tasks
      → AllTasksOf board tasks
  all_of board came [] all = tt
  all_of board came (task ∷ tasks) all = (sym (ap (from board) all.0.0), all_of board came tasks all.1)

  pub all_go_on : (board : Option (Board W)) (came : List (ℕ × List Mark)) (tasks : List (Task W w e)) → AllIn board came tasks
      → (begun : ℕ → List Mark) → EachBegins begun came → EachBegins begun (journals tasks)
  all_go_on board came [] all begun each = tt
  all_go_on board came (task ∷ tasks) all begun each = (all.0.1 begun each, all_go_on board came tasks all.1 begun each)
