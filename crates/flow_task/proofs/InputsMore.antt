-- One more input is part of a board.
use Rattle.std.proofs.Common.{◌≡◌, ℕ, ◌+◌, not, true, false, List, [], ◌∷◌, ◌++◌, length, refl, sym, ap, ◌∙◌, arith}
use Rattle.std.proofs.lemmas.List.Elements.{All-push}
use Rattle.flow_link.specs.Lists.{below, numbers_from}
use Rattle.flow_link.specs.Planned.{layout_of}
use Rattle.flow_block.proofs.PlanMade.{counted_where, counted_else}
use Rattle.flow_task.specs.declared.board.Board.{Board}
use Rattle.flow_task.specs.declared.numbered.Entry.{Entry}
use Rattle.flow_task.specs.declared.numbered.Task.{Task}
use Rattle.flow_task.specs.Makes.{InputsMade}
use Rattle.flow_task.specs.Numbers.{closed_before, is_closed, is_open, open_before, task_count}
use Rattle.flow_task.specs.Parts.{board_of, entry_number, task_number}
use Rattle.flow_task.specs.Untouched.{IsUntouched}
use Rattle.flow_task.proofs.Makes.{entries_on, numbers_on, tasks_on}

module _ {W : Type 0} {w : _} {e : _} (board : Board W) (place : ℕ) (tasks : List (Task W w e)) (entries : List (Entry W w e))
    (made : InputsMade board place tasks entries) where
  -- an entry
  pub entry_more : is_open (layout_of board.rest.plan) board.opens.items place ≡ true → (entry : Entry W w e)
      → entry.input.of.value ≡ board
      → entry_number entry ≡ task_count (layout_of board.rest.plan) board.opens.items + open_before (layout_of board.rest.plan) board.opens.items place
      → IsUntouched board entry → InputsMade board (place + 1) tasks (entries ++ entry ∷ [])
  entry_more opened entry of number fresh = record {
    of = made.of;
    numbers = made.numbers
        ∙ ap (λ (n : ℕ). below (length (layout_of board.rest.plan).blocks + n))
        (counted_else (is_closed (layout_of board.rest.plan) board.opens.items) place (closed_before (layout_of board.rest.plan) board.opens.items place) refl (ap not opened));
    entries_of = entries_on board entries entry made.entries_of of;
    entry_numbers = numbers_on entry_number (task_count (layout_of board.rest.plan) board.opens.items)
        (open_before (layout_of board.rest.plan) board.opens.items place) entries entry made.entry_numbers number
        ∙ ap (numbers_from (task_count (layout_of board.rest.plan) board.opens.items))
        (counted_where (is_open (layout_of board.rest.plan) board.opens.items) place (open_before (layout_of board.rest.plan) board.opens.items place) refl opened);
    untouched = All-push (IsUntouched board) entries entry made.untouched fresh;
  }

  -- an input that is turned
  pub turned_more : is_open (layout_of board.rest.plan) board.opens.items place ≡ false → (task : Task W w e) → board_of task ≡ board
      → task_number task ≡ length (layout_of board.rest.plan).blocks + closed_before (layout_of board.rest.plan) board.opens.items place
      → InputsMade board (place + 1) (tasks ++ task ∷ []) entries
  turned_more closed task of number =
      let count = length (layout_of board.rest.plan).blocks + closed_before (layout_of board.rest.plan) board.opens.items place in
      let one_more = counted_where (is_closed (layout_of board.rest.plan) board.opens.items) place (closed_before (layout_of board.rest.plan) board.opens.items place) refl (ap not closed) in
      let grown : count + 1 ≡ length (layout_of board.rest.plan).blocks + closed_before (layout_of board.rest.plan) board.opens.items (place + 1) =
      omega (arith, one_more) in
      record {
        of = tasks_on board tasks task made.of of;
        numbers = numbers_on task_number 0 count tasks task made.numbers (let same : 0 + count ≡ count = omega arith in number ∙ sym same)
            ∙ ap below grown;
        entries_of = made.entries_of;
        entry_numbers = made.entry_numbers
            ∙ ap (numbers_from (task_count (layout_of board.rest.plan) board.opens.items))
            (counted_else (is_open (layout_of board.rest.plan) board.opens.items) place (open_before (layout_of board.rest.plan) board.opens.items place) refl closed);
        untouched = made.untouched;
      }
