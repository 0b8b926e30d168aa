-- The number that the first gap tells is that of a part that is not there.
use Rattle.std.proofs.Common.{◌≡◌, ℕ, zero, suc, ◌+◌, ◌<◌, ◌≤◌, All, Option, None, Some, IfSome, List, [], ◌∷◌, map, slice_index_or, ap, sym, ◌∙◌, subst, arith, ⊎_elim}
use Rattle.std.proofs.lemmas.Bool.{cases_lt}
use Rattle.flow_link.specs.Lists.{numbers_from}
use Rattle.flow_link.specs.Planned.{layout_of}
use Rattle.flow_task.specs.Absent.{HasAll, IsAbsent, IsGap, IsThere}
use Rattle.flow_task.specs.Numbers.{entry_count}
use Rattle.flow_task.specs.Parts.{AllEntriesOf, AllExitsOf, AllTasksOf, entry_number, exit_number, task_number}
use Rattle.flow_task.specs.declared.board.Board.{Board}
use Rattle.flow_task.specs.declared.numbered.Entry.{Entry}
use Rattle.flow_task.specs.declared.numbered.Exit.{Exit}
use Rattle.flow_task.specs.declared.numbered.Task.{Task}
use Rattle.flow_task.proofs.NumbersOfParts.{entries_end, entry_between, exit_between, exits_end, task_low, tasks_end}
use Rattle.flow_task.proofs.Reordered.{each_entry, each_exit, each_task}

-- what is told of a number tells more
pub more_some : (P Q : ℕ → Type 0) (o : Option ℕ) → IfSome o P → ((n : ℕ) → P n → Q n) → IfSome o Q
more_some P Q None is more = tt
more_some P Q (Some n) is more = more n is

-- the same of equal lists and numbers
module _ {A : Type 0} (says : A → ℕ) (xs ys : List A) (a b c d : ℕ) (same : xs ≡ ys) (from : a ≡ b) (to : c ≡ d) where
  pub gap_to : (n : ℕ) → IsGap says a c xs n → IsGap says b d ys n
  gap_to n gap =
      subst (λ (zs : List A). IsGap says b d zs n) same
      (subst (λ (k : ℕ). IsGap says b k xs n) to (subst (λ (k : ℕ). IsGap says k c xs n) from gap))

  pub are_to : map says xs ≡ numbers_from a c → map says ys ≡ numbers_from b d
  are_to are = ap (map says) (sym same) ∙ are ∙ ap (λ (k : ℕ). numbers_from k c) from ∙ ap (numbers_from b) to

module _ {A : Type 0} (says : A → ℕ) (xs ys : List A) (a b : ℕ) (same : xs ≡ ys) (from : a ≡ b) where
  pub has_to : (n : ℕ) → HasAll says a n xs → HasAll says b n ys
  has_to n has =
      subst (λ (zs : List A). HasAll says b n zs) same (subst (λ (k : ℕ). HasAll says k n xs) from has)

  pub each_to : (P : ℕ → ℕ → Type 0) → All (λ x. P (says x) b) ys → All (λ x. P (says x) a) xs
  each_to P each =
      subst (λ (k : ℕ). All (λ x. P (says x) k) xs) (sym from) (subst (λ (zs : List A). All (λ x. P (says x) b) zs) (sym same) each)

-- where these numbers are there, some have each
numbered_has : {A : Type 0} (says : A → ℕ) (xs : List A) (first count : ℕ) → map says xs ≡ numbers_from first count
    → HasAll says first (first + count) xs
numbered_has says [] first zero are k from low none = absurd (omega (arith, from, low))
numbered_has says [] first (suc count) are k from low none = absurd (cc)
numbered_has says (x ∷ xs) first zero are k from low none = absurd (cc)
numbered_has says (x ∷ xs) first (suc count) are k from low none =
    let here : says x ≡ first = cc in
    let rest : map says xs ≡ numbers_from (suc first) count = cc in
    ⊎_elim
    (λ (less : first < k).
    numbered_has says xs (suc first) count rest k (omega (arith, less)) (omega (arith, low)) (λ i d there. none (suc i) d (omega (arith, there))))
    (λ (same : k ≤ first). none 0 x (omega arith) (omega (arith, here, same, from)))
    (cases_lt first k)

module _ {W : Type 0} {w : _} {e : _} (board : Board W) (tasks : List (Task W w e)) (entries : List (Entry W w e)) (exits : List (Exit W w e)) where
  -- a number before which some have each is after those that are all there
  pub there_task : (n : ℕ) → HasAll task_number 0 n tasks → (k : ℕ) → k < n → IsThere board tasks entries exits k
  there_task n has k low absent = has k (omega arith) low absent.no_task

  pub there_entry : map task_number tasks ≡ numbers_from 0 (tasks_end board) → (n : ℕ) → HasAll entry_number (tasks_end board) n entries
      → (k : ℕ) → k < n → IsThere board tasks entries exits k
  there_entry are n has k low absent =
      ⊎_elim
      (λ (less : k < tasks_end board).
      numbered_has task_number tasks 0 (tasks_end board) are k (omega arith) (omega (arith, less)) absent.no_task)
      (λ (more : tasks_end board ≤ k). has k more low absent.no_entry)
      (cases_lt k (tasks_end board))

  pub there_exit : map task_number tasks ≡ numbers_from 0 (tasks_end board)
      → map entry_number entries ≡ numbers_from (tasks_end board) (entry_count (layout_of board.rest.plan) board.opens.items)
      → (n : ℕ) → HasAll exit_number (entries_end board) n exits → (k : ℕ) → k < n → IsThere board tasks entries exits k
  there_exit are entries_are n has k low absent =
      let count = entry_count (layout_of board.rest.plan) board.opens.items in
      ⊎_elim
      (λ (less : k < entries_end board).
      there_entry are (entries_end board) (numbered_has entry_number entries (tasks_end board) count entries_are) k less absent)
      (λ (more : entries_end board ≤ k). has k more low absent.no_exit)
      (cases_lt k (entries_end board))

  module _ (tasks_of : AllTasksOf board tasks) (entries_of : AllEntriesOf board entries) (exits_of : AllExitsOf board exits) where
    pub tasks_low : All (λ task. task_number task < tasks_end board) tasks
    tasks_low k d low =
        let task = slice_index_or tasks k d in
        task_low board task.kind task.number (each_task board tasks tasks_of k d low) task.numbered

    pub entries_from : All (λ entry. tasks_end board ≤ entry_number entry) entries
    entries_from k d low = (entry_between board (slice_index_or entries k d) (each_entry board entries entries_of k d low)).0

    pub entries_low : All (λ entry. entry_number entry < entries_end board) entries
    entries_low k d low = (entry_between board (slice_index_or entries k d) (each_entry board entries entries_of k d low)).1

    pub exits_from : All (λ exit. entries_end board ≤ exit_number exit) exits
    exits_from k d low = (exit_between board (slice_index_or exits k d) (each_exit board exits exits_of k d low)).0

    pub exits_low : All (λ exit. exit_number exit < exits_end board) exits
    exits_low k d low = (exit_between board (slice_index_or exits k d) (each_exit board exits exits_of k d low)).1

    -- a number that none has of those that may have it is not there
    pub absent_task : (n : ℕ) → IsGap task_number 0 (tasks_end board) tasks n → IsAbsent board tasks entries exits n
    absent_task n gap =
        let before = gap.low in
        record {
          no_task = gap.none;
          no_entry = λ i d there same. let from = entries_from i d there in absurd (omega (arith, before, same, from));
          no_exit = λ i d there same. let from = exits_from i d there in absurd (omega (arith, before, same, from));
        }

    pub absent_entry : (n : ℕ) → IsGap entry_number (tasks_end board) (entries_end board) entries n → IsAbsent board tasks entries exits n
    absent_entry n gap =
        let after = gap.from in
        let before = gap.low in
        record {
          no_task = λ i d there same. let low = tasks_low i d there in absurd (omega (arith, after, same, low));
          no_entry = gap.none;
          no_exit = λ i d there same. let from = exits_from i d there in absurd (omega (arith, before, same, from));
        }

    pub absent_exit : (n : ℕ) → IsGap exit_number (entries_end board) (exits_end board) exits n → IsAbsent board tasks entries exits n
    absent_exit n gap =
        let after = gap.from in
        record {
          no_task = λ i d there same. let low = tasks_low i d there in absurd (omega (arith, after, same, low));
          no_entry = λ i d there same. let low = entries_low i d there in absurd (omega (arith, after, same, low));
          no_exit = gap.none;
        }
