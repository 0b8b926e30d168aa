-- The parts of a board are made one by one.
use Rattle.std.proofs.Common.{◌≡◌, ℕ, zero, suc, ◌+◌, ◌<◌, ◌≤◌, List, [], ◌∷◌, ◌++◌, length, map, drop, take, get_or, slice_index_or, sym, ap, ◌∙◌, arith}
use Rattle.std.proofs.lemmas.List.{map-append, take-take}
use Rattle.std.proofs.Math.Seq.{get_or-append_seam}
use Rattle.flow_link.specs.Lists.{numbers_from}
use Rattle.flow_link.proofs.ListTests.{numbers_more}
use Rattle.flow_task.specs.declared.board.Board.{Board}
use Rattle.flow_task.specs.declared.numbered.Entry.{Entry}
use Rattle.flow_task.specs.declared.numbered.Exit.{Exit}
use Rattle.flow_task.specs.declared.numbered.Task.{Task}
use Rattle.flow_task.specs.declared.numbered.Watch.{Watch}
use Rattle.flow_task.specs.Parts.{AllEntriesOf, AllExitsOf, AllTasksOf, AllWatchesOf, board_of}

-- What is left of a list

pub record IsDropped {A : Type 0} (k : ℕ) (xs : List A) (x : A) (rest : List A) : Type 0 where
  pub first : (d : A) → slice_index_or xs k d ≡ x
  pub others : rest ≡ drop (k + 1) xs
  pub low : k < length xs

dropped_by : {A : Type 0} (k : ℕ) (xs : List A) (x : A) (rest : List A) → drop k xs ≡ x ∷ rest
    → ((d : A) → slice_index_or xs k d ≡ x) × ((rest ≡ drop (suc k) xs) × (k < length xs))
dropped_by zero [] x rest e = absurd (cc)
dropped_by (suc k) [] x rest e = absurd (cc)
dropped_by zero (y ∷ xs) x rest e = (λ d. cc, (cc, omega arith))
dropped_by (suc k) (y ∷ xs) x rest e =
    let found = dropped_by k xs x rest e in
    let low = found.1.1 in
    (found.0, (found.1.0, omega (arith, low)))

pub dropped : {A : Type 0} (k : ℕ) (xs : List A) (x : A) (rest : List A) → drop k xs ≡ x ∷ rest → IsDropped k xs x rest
dropped k xs x rest e =
    let found = dropped_by k xs x rest e in
    let more : suc k ≡ k + 1 = omega arith in
    record { first = found.0; others = found.1.0 ∙ ap (λ n. drop n xs) more; low = found.1.1 }

pub some_left : {A : Type 0} (k : ℕ) (xs : List A) → k < length xs → drop k xs ≡ [] → ⊥
some_left k [] small e = absurd (omega (arith, small))
some_left zero (y ∷ xs) small e = absurd (cc)
some_left (suc k) (y ∷ xs) small e = some_left k xs (omega (arith, small)) e

-- the element after those that were gone through
pub next_there : {A : Type 0} (all gone rest : List A) (x d : A) → all ≡ gone ++ x ∷ rest → get_or all (length gone) d ≡ x
next_there all gone rest x d e = ap (λ xs. get_or xs (length gone) d) e ∙ get_or-append_seam gone x rest d

-- numbers go on
pub numbers_on : {A : Type 0} (number : A → ℕ) (first count : ℕ) (xs : List A) (x : A) → map number xs ≡ numbers_from first count
    → number x ≡ first + count → map number (xs ++ x ∷ []) ≡ numbers_from first (count + 1)
numbers_on number first count xs x are is =
    let more : suc count ≡ count + 1 = omega arith in
    map-append number xs (x ∷ []) ∙ ap (λ ns. ns ++ number x ∷ []) are ∙ ap (λ n. numbers_from first count ++ n ∷ []) is
    ∙ sym (numbers_more first count) ∙ ap (numbers_from first) more

pub map_on : {A B C : Type 0} (f : A → C) (g : B → C) (xs : List A) (ys : List B) (x : A) (y : B) → map f xs ≡ map g ys → f x ≡ g y
    → map f (xs ++ x ∷ []) ≡ map g (ys ++ y ∷ [])
map_on f g xs ys x y are is =
    map-append f xs (x ∷ []) ∙ ap (λ zs. zs ++ f x ∷ []) are ∙ ap (λ z. map g ys ++ z ∷ []) is ∙ sym (map-append g ys (y ∷ []))

-- each is of the board

module _ {W : Type 0} {w : _} {e : _} (board : Board W) where
  pub tasks_on : (tasks : List (Task W w e)) (task : Task W w e) → AllTasksOf board tasks → board_of task ≡ board
      → AllTasksOf board (tasks ++ task ∷ [])
  tasks_on [] task all is = (is, tt)
  tasks_on (first ∷ tasks) task all is = (all.0, tasks_on tasks task all.1 is)

  pub entries_on : (entries : List (Entry W w e)) (entry : Entry W w e) → AllEntriesOf board entries → entry.input.of.value ≡ board
      → AllEntriesOf board (entries ++ entry ∷ [])
  entries_on [] entry all is = (is, tt)
  entries_on (first ∷ entries) entry all is = (all.0, entries_on entries entry all.1 is)

  pub exits_on : (exits : List (Exit W w e)) (exit : Exit W w e) → AllExitsOf board exits → exit.of.value ≡ board
      → AllExitsOf board (exits ++ exit ∷ [])
  exits_on [] exit all is = (is, tt)
  exits_on (first ∷ exits) exit all is = (all.0, exits_on exits exit all.1 is)

  pub watches_on : (watches : List (Watch W w e)) (watch : Watch W w e) → AllWatchesOf board watches → watch.of.value ≡ board
      → AllWatchesOf board (watches ++ watch ∷ [])
  watches_on [] watch all is = (is, tt)
  watches_on (first ∷ watches) watch all is = (all.0, watches_on watches watch all.1 is)

-- a list with another in front is no shorter
pub front_long : {A : Type 0} (front whole : List A) → take (length front) whole ≡ front → length front ≤ length whole
front_long [] whole e = omega arith
front_long (x ∷ front) [] e = absurd (cc)
front_long (x ∷ front) (y ∷ whole) e =
    let rest : length front ≤ length whole = front_long front whole (ap (drop 1) e) in
    omega (arith, rest)

-- and what is in front of it is in front of all
pub front_of_front : {A : Type 0} (first front whole : List A) → take (length first) front ≡ first → take (length front) whole ≡ front
    → take (length first) whole ≡ first
front_of_front first front whole one other =
    sym (take-take (length first) (length front) whole (front_long first front one)) ∙ ap (take (length first)) other ∙ one

-- Behind the first ones

no_numbers : (first count : ℕ) → [] ≡ numbers_from first (suc count) → ⊥
no_numbers first count e = absurd (cc)

pub numbers_behind : {A : Type 0} (number : A → ℕ) (first k count : ℕ) (xs : List A) → map number xs ≡ numbers_from first (k + count)
    → map number (drop k xs) ≡ numbers_from (first + k) count
numbers_behind number first zero count xs are =
    let none : 0 + count ≡ count = omega arith in
    let same : first ≡ first + 0 = omega arith in
    are ∙ ap (numbers_from first) none ∙ ap (λ n. numbers_from n count) same
numbers_behind number first (suc k) count [] are =
    let more : suc k + count ≡ suc (k + count) = omega arith in
    absurd (no_numbers first (k + count) (are ∙ ap (numbers_from first) more))
numbers_behind number first (suc k) count (x ∷ xs) are =
    let more : suc k + count ≡ suc (k + count) = omega arith in
    let next : suc first + k ≡ first + suc k = omega arith in
    numbers_behind number (suc first) k count xs (ap (drop 1) (are ∙ ap (numbers_from first) more)) ∙ ap (λ n. numbers_from n count) next

module _ {W : Type 0} {w : _} {e : _} (board : Board W) where
  pub tasks_behind : (k : ℕ) (tasks : List (Task W w e)) → AllTasksOf board tasks → AllTasksOf board (drop k tasks)
  tasks_behind zero tasks all = all
  tasks_behind (suc k) [] all = tt
  tasks_behind (suc k) (task ∷ tasks) all = tasks_behind k tasks all.1
