-- Rounds one after another, and journals where no number comes twice.
use Rattle.std.proofs.Common.{◌==◌, if◌then◌else◌, List, [], Result, Ok, Err, IfOk, IfErr, Some, refl, ◌∙◌}
use Rattle.flow_board.specs.Parts.{AllTasksOf}
use Rattle.flow_task.specs.declared.board.Board.{Board}
use Rattle.flow_task.specs.declared.numbered.Task.{Task}
use Rattle.flow_crew.specs.Journals.{journals}
use Rattle.flow_crew.specs.Numbers.{SameNumbers}
use Rattle.flow_crew.specs.Rounds.{AllIn, ComeBack}
use Rattle.flow_crew.proofs.Journals.{all_go_on, all_of}

pub if_ok : {A E : Type 0} (P Q : A → Type 0) → ((a : A) → P a → Q a) → (r : Result A E) → IfOk r P → IfOk r Q
if_ok P Q so (Ok a) is = so a is
if_ok P Q so (Err e) is = tt

pub if_err : {A E : Type 0} (P Q : E → Type 0) → ((e : E) → P e → Q e) → (r : Result A E) → IfErr r P → IfErr r Q
if_err P Q so (Ok a) is = tt
if_err P Q so (Err e) is = so e is

module _ {W : Type 0} {w : _} {e : _} where
  -- tasks that came and went come back
  pub comes_back : (board : Board W) (old new : List (Task W w e)) → SameNumbers old new → AllIn (Some board) (journals old) new
      → ComeBack board old new
  comes_back board old new same all = record {
    of = all_of board (journals old) new all;
    numbers = same;
    journals = all_go_on (Some board) (journals old) new all;
  }

  -- they come back from no round, and from one after another
  pub back_at_once : (board : Board W) (tasks : List (Task W w e)) → AllTasksOf board tasks → ComeBack board tasks tasks
  back_at_once board tasks of = record { of = of; numbers = λ h. refl; journals = λ begun each. each }

  pub back_further : (board : Board W) (old mid new : List (Task W w e)) → ComeBack board old mid → ComeBack board mid new
      → ComeBack board old new
  back_further board old mid new head tail = record {
    of = tail.of;
    numbers = λ h. tail.numbers h ∙ head.numbers h;
    journals = λ begun each. tail.journals begun (head.journals begun each);
  }
