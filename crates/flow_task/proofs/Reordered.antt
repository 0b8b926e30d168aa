-- Parts in another order are of the same board.
use Rattle.std.proofs.Common.{◌≡◌, List, [], ◌∷◌, All, sym, subst, arith}
use Rattle.std.specs.List.Sorted.{IsPermutation}
use Rattle.std.proofs.lemmas.List.Elements.{All-cons, All-head, All-tail}
use Rattle.std.proofs.lemmas.List.Sorted.{All-permutation}
use Rattle.flow_task.specs.Absent.{EntriesStay, ExitsStay, TasksStay}
use Rattle.flow_task.specs.Parts.{AllEntriesOf, AllExitsOf, AllTasksOf, board_of}
use Rattle.flow_task.specs.declared.board.Board.{Board}
use Rattle.flow_task.specs.declared.numbered.Entry.{Entry}
use Rattle.flow_task.specs.declared.numbered.Exit.{Exit}
use Rattle.flow_task.specs.declared.numbered.Task.{Task}

module _ {W : Type 0} {w : _} {e : _} (board : Board W) where
  abbrev pub OfTask : Task W w e → Type 0
  OfTask task = board_of task ≡ board

  abbrev pub OfEntry : Entry W w e → Type 0
  OfEntry entry = entry.input.of.value ≡ board

  abbrev pub OfExit : Exit W w e → Type 0
  OfExit exit = exit.of.value ≡ board

  pub each_task : (tasks : List (Task W w e)) → AllTasksOf board tasks → All OfTask tasks
  each_task [] all = λ k d low. absurd (omega (arith, low))
  each_task (task ∷ tasks) all = All-cons OfTask task tasks all.0 (each_task tasks all.1)

  all_tasks : (tasks : List (Task W w e)) → All OfTask tasks → AllTasksOf board tasks
  all_tasks [] each = tt
  all_tasks (task ∷ tasks) each = (All-head OfTask task tasks each, all_tasks tasks (All-tail OfTask task tasks each))

  pub each_entry : (entries : List (Entry W w e)) → AllEntriesOf board entries → All OfEntry entries
  each_entry [] all = λ k d low. absurd (omega (arith, low))
  each_entry (entry ∷ entries) all = All-cons OfEntry entry entries all.0 (each_entry entries all.1)

  all_entries : (entries : List (Entry W w e)) → All OfEntry entries → AllEntriesOf board entries
  all_entries [] each = tt
  all_entries (entry ∷ entries) each = (All-head OfEntry entry entries each, all_entries entries (All-tail OfEntry entry entries each))

  pub each_exit : (exits : List (Exit W w e)) → AllExitsOf board exits → All OfExit exits
  each_exit [] all = λ k d low. absurd (omega (arith, low))
  each_exit (exit ∷ exits) all = All-cons OfExit exit exits all.0 (each_exit exits all.1)

  all_exits : (exits : List (Exit W w e)) → All OfExit exits → AllExitsOf board exits
  all_exits [] each = tt
  all_exits (exit ∷ exits) each = (All-head OfExit exit exits each, all_exits exits (All-tail OfExit exit exits each))

module _ {W : Type 0} {w : _} {e : _} where
  pub tasks_stay : (old new : List (Task W w e)) → IsPermutation old new → TasksStay old new
  tasks_stay old new same board all = all_tasks board new (All-permutation (OfTask board) old new same (each_task board old all))

  pub entries_stay : (old new : List (Entry W w e)) → IsPermutation old new → EntriesStay old new
  entries_stay old new same board all = all_entries board new (All-permutation (OfEntry board) old new same (each_entry board old all))

  pub exits_stay : (old new : List (Exit W w e)) → IsPermutation old new → ExitsStay old new
  exits_stay old new same board all = all_exits board new (All-permutation (OfExit board) old new same (each_exit board old all))

  -- and of a board that is the same one
  pub tasks_sorted : (was now : Board W) (old new : List (Task W w e)) → now ≡ was → TasksStay old new → AllTasksOf was old
      → AllTasksOf now new
  tasks_sorted was now old new same stay all = subst (λ (board : Board W). AllTasksOf board new) (sym same) (stay was all)

  pub entries_sorted : (was now : Board W) (old new : List (Entry W w e)) → now ≡ was → EntriesStay old new → AllEntriesOf was old
      → AllEntriesOf now new
  entries_sorted was now old new same stay all = subst (λ (board : Board W). AllEntriesOf board new) (sym same) (stay was all)

  pub exits_sorted : (was now : Board W) (old new : List (Exit W w e)) → now ≡ was → ExitsStay old new → AllExitsOf was old
      → AllExitsOf now new
  exits_sorted was now old new same stay all = subst (λ (board : Board W). AllExitsOf board new) (sym same) (stay was all)
