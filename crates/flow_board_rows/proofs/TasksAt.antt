-- Tasks beside their board.
use Rattle.std.proofs.Common.{◌≡◌, List, [], ◌∷◌, ◌++◌, ◌∙◌}
use Rattle.flow_link.specs.declared.trace.Mark.{Mark}
use Rattle.flow_poll.specs.Turns.{EachGoesOn, GoesFurther}
use Rattle.flow_board.specs.At.{AllAt, IsSame, board_at}
use Rattle.flow_task.specs.declared.at.TaskAt.{TaskAt}
use Rattle.flow_task.specs.declared.board.Board.{Board}

module _ {W : Type 0} {w : _} {e : _} (board : Board W) where
  -- one more
  pub at_on : (all : List (TaskAt W w e)) (next : TaskAt W w e) → AllAt board all → board_at next ≡ board → AllAt board (all ++ next ∷ [])
  at_on [] next at is = (is, tt)
  at_on (first ∷ all) next at is = (at.0, at_on all next at.1 is)

  -- the same ones later are at the same board
  pub at_later : (journal : TaskAt W w e → List Mark) (olds news : List (TaskAt W w e))
      → EachGoesOn (GoesFurther journal IsSame) olds news → AllAt board olds → AllAt board news
  at_later journal [] [] goes at = tt
  at_later journal [] (new ∷ news) goes at = absurd goes
  at_later journal (old ∷ olds) [] goes at = absurd goes
  at_later journal (old ∷ olds) (new ∷ news) goes at = (goes.0.same.board ∙ at.0, at_later journal olds news goes.1 at.1)
