-- The numbers of tasks, each as often as it stands there.
use Rattle.std.specs.Prelude.{◌≡◌, ℕ, ◌+◌, List, [], ◌∷◌}
use Rattle.flow_board.specs.Parts.{task_number}
use Rattle.flow_task.specs.declared.numbered.Task.{Task}

-- the weights of the numbers, added up
abbrev pub weigh : (ℕ → ℕ) → List ℕ → ℕ
weigh h [] = 0
weigh h (n ∷ ns) = h n + weigh h ns

module _ {W : Type 0} {w : _} {e : _} where
  abbrev pub numbers : List (Task W w e) → List ℕ
  numbers [] = []
  numbers (task ∷ tasks) = task_number task ∷ numbers tasks

  -- the same numbers, each as often: they weigh the same, however they are weighed
  abbrev pub SameNumbers : List (Task W w e) → List (Task W w e) → Type 0
  SameNumbers old new = (h : ℕ → ℕ) → weigh h (numbers new) ≡ weigh h (numbers old)
