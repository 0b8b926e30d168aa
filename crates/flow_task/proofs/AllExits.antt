-- Each of the exits of a board is of it.
use Rattle.std.proofs.Common.{◌≡◌, List, [], ◌∷◌, ◌++◌}
use Rattle.flow_task.specs.Parts.{AllExitsOf}
use Rattle.flow_task.specs.declared.board.Board.{Board}
use Rattle.flow_task.specs.declared.numbered.Exit.{Exit}

pub its_board : {W : Type 0} {w : _} {e : _} (board : Board W) (before after : List (Exit W w e)) (exit : Exit W w e)
    → AllExitsOf board (before ++ exit ∷ after) → exit.of.value ≡ board
its_board board [] after exit all = all.0
its_board board (first ∷ before) after exit all = its_board board before after exit all.1
