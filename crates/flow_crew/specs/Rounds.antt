-- What a round does with the tasks of a board.
use Rattle.std.specs.Prelude.{◌≡◌, ℕ, List, [], ◌∷◌, Option, Some}
use Rattle.flow_link.specs.declared.trace.Mark.{Mark}
use Rattle.flow_board.specs.Parts.{AllTasksOf, board_of, marks_in, task_number}
use Rattle.flow_task.specs.declared.board.Board.{Board}
use Rattle.flow_task.specs.declared.numbered.Task.{Task}
use Rattle.flow_crew.specs.Journals.{GoesOn, AllGoOn}
use Rattle.flow_crew.specs.Numbers.{SameNumbers}

module _ {W : Type 0} {w : _} {e : _} where
  -- a task of this board, whose journal goes on from what came with its number
  abbrev pub IsIn : Option (Board W) → List (ℕ × List Mark) → Task W w e → Type 0
  IsIn board came task = (board ≡ Some (board_of task)) × GoesOn came (task_number task) (marks_in task)

  abbrev pub AllIn : Option (Board W) → List (ℕ × List Mark) → List (Task W w e) → Type 0
  AllIn board came [] = Unit {0}
  AllIn board came (task ∷ tasks) = IsIn board came task × AllIn board came tasks

  -- the tasks come back: they are of the board, each number is there as often as before, and each journal goes on
  pub record ComeBack (board : Board W) (old new : List (Task W w e)) : Type 0 where
    pub of : AllTasksOf board new
    pub numbers : SameNumbers old new
    pub journals : AllGoOn old new
