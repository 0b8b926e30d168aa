-- The numbers of tasks that are put in and taken out.
use Rattle.std.proofs.Common.{◌≡◌, ℕ, ◌≤◌, List, [], ◌∷◌, ◌++◌, length, reverse, sym, refl, ap, ◌∙◌}
use native.Mathlib.Omega.{arith}
use Rattle.std.proofs.lemmas.List.{reverse-append, length-reverse}
use Rattle.crossbeam_queue.specs.Fifo.{Held}
use Rattle.flow_board.specs.Parts.{task_number}
use Rattle.flow_task.specs.declared.numbered.Task.{Task}
use Rattle.flow_crew.specs.declared.rule.Hand.{Hand}
use Rattle.flow_crew.specs.Numbers.{numbers, weigh}
use Rattle.flow_crew.specs.Rules.{HasRoom}
use Rattle.flow_crew.proofs.Keeps.{weigh-append}

snoc_reverse : (x : ℕ) (xs : List ℕ) → reverse (x ∷ xs) ≡ reverse xs ++ x ∷ []
snoc_reverse x xs = reverse-append (x ∷ []) xs

pub weigh-reverse : (h : ℕ → ℕ) (xs : List ℕ) → weigh h (reverse xs) ≡ weigh h xs
weigh-reverse h [] = refl
weigh-reverse h (x ∷ xs) =
    let rest = weigh-reverse h xs in
    let cut = ap (weigh h) (snoc_reverse x xs) in
    omega (arith, weigh-append h (reverse xs) (x ∷ []))

-- a push into a queue with room for all tasks is not refused
pub never_full : (all : List ℕ) (cap : ℕ) (v : Hand) (x : ℕ) (rest : List ℕ) → v.holds ≡ x ∷ rest → length all ≤ cap
    → Held cap (HasRoom all v) → ⊥
never_full all cap v x rest is room held =
    let one = ap (λ l. length l) is in
    let full = held.1 in
    let most = held.2 in
    absurd (omega arith)

module _ {W : Type 0} {w : _} {e : _} where
  pub numbers-append : (xs ys : List (Task W w e)) → numbers (xs ++ ys) ≡ numbers xs ++ numbers ys
  numbers-append [] ys = refl
  numbers-append (x ∷ xs) ys = ap (λ ns. task_number x ∷ ns) (numbers-append xs ys)

  pub numbers-length : (xs : List (Task W w e)) → length (numbers xs) ≡ length xs
  numbers-length [] = refl
  numbers-length (x ∷ xs) = let rest = numbers-length xs in omega arith

  -- the last task goes in first
  pub last_first : (old new : List (Task W w e)) (t : Task W w e) → old ≡ new ++ t ∷ []
      → reverse (numbers old) ≡ task_number t ∷ reverse (numbers new)
  last_first old new t is =
      ap (λ ts. reverse (numbers ts)) is
      ∙ (ap reverse (numbers-append new (t ∷ [])) ∙ reverse-append (numbers new) (task_number t ∷ []))

  pub all_length : (all : List ℕ) (tasks : List (Task W w e)) → all ≡ reverse (numbers tasks) → length all ≡ length tasks
  all_length all tasks is = ap length is ∙ (length-reverse (numbers tasks) ∙ numbers-length tasks)

  pub held_more : (old new : List (Task W w e)) (t : Task W w e) (holds : List ℕ) (x : ℕ) → holds ≡ numbers old → task_number t ≡ x
      → new ≡ old ++ t ∷ [] → holds ++ x ∷ [] ≡ numbers new
  held_more old new t holds x is number items =
      ap (λ l. l ++ x ∷ []) is
      ∙ (ap (λ n. numbers old ++ n ∷ []) (sym number) ∙ sym (ap numbers items ∙ numbers-append old (t ∷ [])))
