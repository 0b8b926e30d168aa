-- The journals of tasks go on from those with which they began.
use Rattle.std.proofs.Common.{◌≡◌, ℕ, zero, suc, ◌+◌, ◌-◌, ◌<◌, List, [], ◌∷◌, length, map, get_or, take, refl, ◌∙◌, subst, arith}
use Rattle.std.proofs.Math.Logic.{∥∥₁_elim}
use Rattle.flow_link.specs.Lists.{numbers_from}
use Rattle.flow_link.specs.Planned.{layout_of}
use Rattle.flow_poll.specs.Turns.{Extends}
use Rattle.flow_task.specs.Begun.{begun_journal}
use Rattle.flow_task.specs.Kinds.{BeginsBy}
use Rattle.flow_task.specs.Parts.{AllTasksOf, board_of, marks_by, marks_in, task_number}
use Rattle.flow_task.specs.declared.board.Board.{Board}
use Rattle.flow_task.specs.declared.numbered.Kind.{Kind}
use Rattle.flow_task.specs.declared.numbered.Kind.TheVariants as kind
use Rattle.flow_task.specs.declared.numbered.Task.{Task}
use Rattle.flow_task.proofs.TakenApart.{number_here}
use Rattle.flow_task.proofs.TurnsGrow.{extends_prop}
use Rattle.flow_task.proofs.TasksApart.{block_board, block_number, input_later, lane_later}

-- how many blocks are on a board
abbrev count : {W : Type 0} → Board W → ℕ
count board = length (layout_of board.rest.plan).blocks

module _ {W : Type 0} {w : _} {e : _} (board : Board W) where
  -- a block's task, by its number
  begins_by : (it : Task W w e) (k : Kind W w e) → it.kind ≡ k → board_of it ≡ board → (b : ℕ) → task_number it ≡ b → b < count board
      → ∥ BeginsBy k ∥₁ → Extends (begun_journal board b) (marks_by k)
  begins_by it (kind.Block task) is its b number small begins =
      let of = block_board board it.kind it.number its it.numbered task is in
      let same = block_number board it.kind it.number its it.numbered task is ∙ number in
      ∥∥₁_elim begins (extends_prop (begun_journal board b) task.block.node.journal) (λ goes.
      subst (λ (n : ℕ). Extends (begun_journal board n) task.block.node.journal) same
      (subst (λ (on : Board W). Extends (begun_journal on task.block.number) task.block.node.journal) of goes))
  begins_by it (kind.Input task) is its b number small begins =
      let later = input_later board it.kind it.number its it.numbered task is in
      absurd (omega (arith, later, number, small))
  begins_by it (kind.Lane task) is its b number small begins =
      let later = lane_later board it.kind it.number its it.numbered task is in
      absurd (omega (arith, later, number, small))

  -- the first of tasks in the order of their numbers
  pub journals_begin : (tasks : List (Task W w e)) (m n first b : ℕ) → AllTasksOf board tasks
      → map task_number tasks ≡ numbers_from first n → b < m → b < n → first + b < count board
      → Extends (begun_journal board (first + b)) (get_or (map marks_in (take m tasks)) b [])
  journals_begin tasks zero n first b of numbers few many small = absurd (omega (arith, few))
  journals_begin [] (suc m) zero first b of numbers few many small = absurd (omega (arith, many))
  journals_begin [] (suc m) (suc n) first b of numbers few many small = absurd (cc)
  journals_begin (task ∷ tasks) (suc m) n first zero of numbers few many small =
      let here = number_here task_number tasks task first n numbers in
      begins_by task task.kind refl of.0 (first + 0) (omega (arith, here.0)) small task.begins
  journals_begin (task ∷ tasks) (suc m) n first (suc b) of numbers few many small =
      let here = number_here task_number tasks task first n numbers in
      let next : (first + 1) + b ≡ first + suc b = omega arith in
      subst (λ (k : ℕ). Extends (begun_journal board k) (get_or (map marks_in (take m tasks)) b [])) next
      (journals_begin tasks m (n - 1) (first + 1) b of.1 here.1 (omega (arith, few)) (omega (arith, many)) (omega (arith, small)))
