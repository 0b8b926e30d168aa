-- Tasks that come back once each, with the entries and exits of their board: gathering never misses one.
use Rattle.std.proofs.Common.{◌≡◌, ℕ, zero, suc, ◌+◌, ◌<◌, ◌≤◌, ◌==◌, Bool, if◌then◌else◌, List, [], ◌∷◌, length, map, slice_index_or, refl, sym, ap, ◌∙◌, subst, arith, ⊎_elim}
use Rattle.std.specs.List.{sum_by}
use Rattle.std.specs.List.Sorted.{IsPermutation}
use Rattle.std.proofs.lemmas.Bool.{cases_lt, cases_order, eq-eqb, ne_eqb}
use Rattle.std.proofs.lemmas.List.Sorted.{sum_by-IsPermutation}
use Rattle.std.proofs.lemmas.List.Sums.{sum_by-cons}
use Rattle.flow_link.specs.Lists.{numbers_from}
use Rattle.flow_link.specs.Planned.{layout_of}
use Rattle.flow_block.specs.Planned.{links_out}
use Rattle.flow_task.specs.Absent.{AllDiffer, AllThere, NoneHas, NoTwoAlike, part_count}
use Rattle.flow_task.specs.Numbers.{entry_count, task_count}
use Rattle.flow_task.specs.Parts.{entry_number, exit_number, task_number}
use Rattle.flow_task.specs.declared.board.Board.{Board}
use Rattle.flow_task.specs.declared.numbered.Parts.{Parts}
use Rattle.flow_task.specs.declared.numbered.Task.{Task}
use Rattle.flow_board.specs.Gathers.{AreBack, IsWhyNot}
use Rattle.flow_board.specs.declared.gathering.GatherFault.TheVariants.{Missing}
use Rattle.flow_crew.specs.Numbers.{SameNumbers, numbers, weigh}

-- one for the number, and nothing for another
abbrev is_it : ℕ → ℕ → ℕ
is_it n m = if n == m then 1 else 0

it_is : (n m : ℕ) → n ≡ m → is_it n m ≡ 1
it_is n m same = ap (λ (is : Bool). if is then 1 else 0) (eq-eqb n m same)

it_is_not : (n m : ℕ) → (n ≡ m → ⊥) → is_it n m ≡ 0
it_is_not n m other = ap (λ (is : Bool). if is then 1 else 0) (ne_eqb n m other)

-- how often a number stands among all from a first one on
not_among : (n first count : ℕ) → n < first → weigh (is_it n) (numbers_from first count) ≡ 0
not_among n first zero low = refl
not_among n first (suc count) low =
    let here = it_is_not n first (λ same. absurd (omega (arith, low, same))) in
    let rest = not_among n (suc first) count (omega (arith, low)) in
    omega (arith, here, rest)

once_among : (n first count : ℕ) → first ≤ n → n < first + count → weigh (is_it n) (numbers_from first count) ≡ 1
once_among n first zero from low = absurd (omega (arith, from, low))
once_among n first (suc count) from low =
    ⊎_elim
    (λ (same : n ≡ first).
    let here = it_is n first same in
    let rest = not_among n (suc first) count (omega (arith, same)) in
    omega (arith, here, rest))
    (⊎_elim (λ (less : n < first). absurd (omega (arith, less, from)))
    (λ (more : first < n).
    let here = it_is_not n first (λ same. absurd (omega (arith, more, same))) in
    let rest = once_among n (suc first) count (omega (arith, more)) (omega (arith, low)) in
    omega (arith, here, rest)))
    (cases_order n first)

at_most_once : (n first count : ℕ) → weigh (is_it n) (numbers_from first count) ≤ 1
at_most_once n first zero = omega arith
at_most_once n first (suc count) =
    ⊎_elim
    (λ (same : n ≡ first).
    let here = it_is n first same in
    let rest = not_among n (suc first) count (omega (arith, same)) in
    omega (arith, here, rest))
    (λ other.
    let here = it_is_not n first (λ same. ⊎_elim (λ less. absurd (omega (arith, less, same))) (λ more. absurd (omega (arith, more, same))) other) in
    let rest = at_most_once n (suc first) count in
    omega (arith, here, rest))
    (cases_order n first)

module _ {A : Type 0} (number : A → ℕ) where
  -- the numbers of these weigh so much
  abbrev weighs : (ℕ → ℕ) → List A → ℕ
  weighs h xs = weigh h (map number xs)

  none_weighs : (n : ℕ) (xs : List A) → NoneHas number n xs → weighs (is_it n) xs ≡ 0
  none_weighs n [] none = refl
  none_weighs n (x ∷ xs) none =
      let here = it_is_not n (number x) (λ same. none 0 x (omega arith) (sym same)) in
      let rest = none_weighs n xs (λ i d low. none (suc i) d (omega (arith, low))) in
      omega (arith, here, rest)

  one_weighs : (n : ℕ) (xs : List A) (j : ℕ) (d : A) → j < length xs → number (slice_index_or xs j d) ≡ n → 1 ≤ weighs (is_it n) xs
  one_weighs n [] j d low is = absurd (omega (arith, low))
  one_weighs n (x ∷ xs) zero d low is = let here = it_is n (number x) (sym is) in omega (arith, here)
  one_weighs n (x ∷ xs) (suc j) d low is = let rest = one_weighs n xs j d (omega (arith, low)) is in omega (arith, rest)

  two_weigh : (n : ℕ) (xs : List A) (i j : ℕ) (d : A) → i < j → j < length xs → number (slice_index_or xs i d) ≡ n
      → number (slice_index_or xs j d) ≡ n → 2 ≤ weighs (is_it n) xs
  two_weigh n [] i j d before low is too = absurd (omega (arith, low))
  two_weigh n (x ∷ xs) i zero d before low is too = absurd (omega (arith, before))
  two_weigh n (x ∷ xs) zero (suc j) d before low is too =
      let here = it_is n (number x) (sym is) in
      let rest = one_weighs n xs j d (omega (arith, low)) too in
      omega (arith, here, rest)
  two_weigh n (x ∷ xs) (suc i) (suc j) d before low is too =
      let rest = two_weigh n xs i j d (omega (arith, before)) (omega (arith, low)) is too in omega (arith, rest)

  -- these have all numbers from a first one on, each once, in whatever order
  abbrev AreOnce : ℕ → ℕ → List A → Type 0
  AreOnce first count xs = (h : ℕ → ℕ) → weighs h xs ≡ weigh h (numbers_from first count)

  all_differ : (first count : ℕ) (xs : List A) → AreOnce first count xs → AllDiffer number xs
  all_differ first count xs once i j d before low same =
      let n = number (slice_index_or xs j d) in
      let two = two_weigh n xs i j d before low same refl in
      let most = at_most_once n first count in
      absurd (omega (arith, two, most, once (is_it n)))

  one_has : (first count : ℕ) (xs : List A) → AreOnce first count xs → (n : ℕ) → first ≤ n → n < first + count → NoneHas number n xs → ⊥
  one_has first count xs once n from low none =
      absurd (omega (arith, none_weighs n xs none, once_among n first count from low, once (is_it n)))

  -- in another order they weigh the same
  weighs_sum : (h : ℕ → ℕ) (xs : List A) → weighs h xs ≡ sum_by (λ x. h (number x)) xs
  weighs_sum h [] = refl
  weighs_sum h (x ∷ xs) =
      let rest = weighs_sum h xs in
      let more = sum_by-cons (λ (y : A). h (number y)) x xs in
      omega (arith, rest, more)

  once_again : (first count : ℕ) (xs ys : List A) → IsPermutation xs ys → AreOnce first count xs → AreOnce first count ys
  once_again first count xs ys same once h =
      weighs_sum h ys ∙ sum_by-IsPermutation (λ (x : A). h (number x)) xs ys same ∙ sym (weighs_sum h xs) ∙ once h

module _ {W : Type 0} {w : _} {e : _} where
  numbers_are : (tasks : List (Task W w e)) → map task_number tasks ≡ numbers tasks
  numbers_are [] = refl
  numbers_are (task ∷ tasks) = ap (λ ns. task_number task ∷ ns) (numbers_are tasks)

  -- whatever tasks came back in the place of those of all parts, none is missed
  pub never_missing : (board : Board W) (old new back : Parts W w e) (n : ℕ)
      → AllThere board old.tasks.items old.entries.items old.exits.items → new.board ≡ board → SameNumbers old.tasks.items new.tasks.items
      → new.entries ≡ old.entries → new.exits ≡ old.exits → AreBack new back → IsWhyNot back (Missing n) → ⊥
  never_missing board old new back n there its same entries exits are why =
      let layout = layout_of board.rest.plan in
      let opens = board.opens.items in
      let turned = task_count layout opens in
      let posted = entry_count layout opens in
      let out = length (links_out layout) in
      let tasks : AreOnce task_number 0 turned back.tasks.items =
      once_again task_number 0 turned new.tasks.items back.tasks.items are.tasks
      (λ h. ap (weigh h) (numbers_are new.tasks.items) ∙ same h ∙ sym (ap (weigh h) (numbers_are old.tasks.items)) ∙ ap (weigh h) there.tasks_are) in
      let entry : AreOnce entry_number turned posted back.entries.items =
      once_again entry_number turned posted new.entries.items back.entries.items are.entries
      (λ h. ap (λ v. weigh h (map entry_number v.items)) entries ∙ ap (weigh h) there.entries_are) in
      let exit : AreOnce exit_number (turned + posted) out back.exits.items =
      once_again exit_number (turned + posted) out new.exits.items back.exits.items are.exits
      (λ h. ap (λ v. weigh h (map exit_number v.items)) exits ∙ ap (weigh h) there.exits_are) in
      let two : NoTwoAlike back.board back.tasks.items back.entries.items back.exits.items =
      record {
        tasks_differ = all_differ task_number 0 turned back.tasks.items tasks;
        entries_differ = all_differ entry_number turned posted back.entries.items entry;
        exits_differ = all_differ exit_number (turned + posted) out back.exits.items exit;
      } in
      let low : n < turned + posted + out = subst (λ (b : Board W). n < part_count b) (are.board ∙ its) (why.within two) in
      let absent = why.absent two in
      ⊎_elim
      (λ (less : n < turned). one_has task_number 0 turned back.tasks.items tasks n (omega arith) (omega (arith, less)) absent.no_task)
      (λ (more : turned ≤ n).
      ⊎_elim
      (λ (less : n < turned + posted).
      one_has entry_number turned posted back.entries.items entry n more less absent.no_entry)
      (λ (more : turned + posted ≤ n).
      one_has exit_number (turned + posted) out back.exits.items exit n more low absent.no_exit)
      (cases_lt n (turned + posted)))
      (cases_lt n turned)
