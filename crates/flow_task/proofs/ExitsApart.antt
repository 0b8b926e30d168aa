-- The exits of a network are taken, one by one.
use Rattle.std.proofs.Common.{◌≡◌, ℕ, ◌+◌, ◌<◌, ◌-◌, Bool, true, List, [], ◌∷◌, ◌++◌, length, map, get_or, sym, ap, ◌∙◌, subst, arith}
use Rattle.std.proofs.lemmas.Bool.{eqb-true}
use Rattle.std.proofs.lemmas.List.{length_push}
use Rattle.atomic_table.specs.Seated.{TableId}
use Rattle.flow_link.specs.Lists.{numbers_from, below}
use Rattle.flow_link.proofs.PlacesOfNumbers.{place_below}
use Rattle.flow_link.specs.Layout.{Layout}
use Rattle.flow_block.specs.Planned.{exit_place, leads_out, links_out}
use Rattle.flow_exit.specs.Exit.{ExitState, fresh_exit}
use Rattle.flow_exit.specs.ExitKeeps.{ExitLaw}
use Rattle.flow_wire.specs.Ends.{TargetOf}
use Rattle.flow_task.specs.Exits.{exit_due}
use Rattle.flow_task.specs.Known.{InKnown, in_known}
use Rattle.flow_task.specs.Numbers.{entry_count, is_exit_number, task_count}
use Rattle.flow_task.proofs.TakenApart.{said_more, holds_more, number_here}

-- the number at a place
pub number_there : {A : Type 0} (number : A → ℕ) (before after : List A) (x : A) (first n : ℕ)
    → map number (before ++ x ∷ after) ≡ numbers_from first n → number x ≡ first + length before
number_there number [] after x first n e =
    let none : first ≡ first + 0 = omega arith in
    (number_here number after x first n e).0 ∙ none
number_there number (y ∷ before) after x first n e =
    let one : first + 1 + length before ≡ first + length (y ∷ before) = omega arith in
    number_there number before after x (first + 1) (n - 1) (number_here number (before ++ x ∷ after) y first n e).1 ∙ one

-- an exit's place, by its number
pub exit_at_place : {W : Type 0} (layout : Layout W) (opens : List Bool) (l n k : ℕ)
    → n ≡ task_count layout opens + entry_count layout opens + k → is_exit_number layout opens l n ≡ true → exit_place layout l ≡ k
exit_at_place layout opens l n k is numbered =
    let before = task_count layout opens + entry_count layout opens + exit_place layout l in
    let same : before ≡ n = eqb-true before n numbered in
    omega (arith, same, is)

-- an exit's link, by its number
pub exit_link : {W : Type 0} (layout : Layout W) (opens : List Bool) (l n k : ℕ) → l < length layout.links → leads_out layout l ≡ true
    → n ≡ task_count layout opens + entry_count layout opens + k → is_exit_number layout opens l n ≡ true
    → l ≡ get_or (links_out layout) k 0
exit_link layout opens l n k there leads is numbered =
    let place = exit_at_place layout opens l n k is numbered in
    sym (place_below (leads_out layout) (length layout.links) l there leads).is_there
    ∙ ap (λ (j : ℕ). get_or (links_out layout) j 0) place

module _ {W : Type 0} (layout : Layout W) (wires : List TableId) where
  abbrev pub due_at : ExitState → ℕ → InKnown
  due_at exit k = exit_due layout wires (get_or (links_out layout) k 0) exit

  -- so many are taken
  pub record ExitsTaken (k : ℕ) (exits : List ExitState) (ends : List TargetOf) : Type 0 where
    pub count : length exits ≡ k
    pub laws : (j : ℕ) → j < k → ∥ ExitLaw (get_or exits j fresh_exit) ∥₁
    pub ends_know : map in_known ends ≡ map (λ j. due_at (get_or exits j fresh_exit) j) (below k)

  -- one more
  pub exit_more : (k : ℕ) (exits : List ExitState) (ends : List TargetOf) → ExitsTaken k exits ends → (exit : ExitState) (end : TargetOf)
      → (exits' : List ExitState) (ends' : List TargetOf) → exits' ≡ exits ++ exit ∷ [] → ends' ≡ ends ++ end ∷ []
      → ∥ ExitLaw exit ∥₁ → in_known end ≡ due_at exit k → ExitsTaken (k + 1) exits' ends'
  exit_more k exits ends taken exit end exits' ends' ex en law knows =
      subst (λ (xs : List ExitState). ExitsTaken (k + 1) xs ends') (sym ex)
      (subst (λ (xs : List TargetOf). ExitsTaken (k + 1) (exits ++ exit ∷ []) xs) (sym en)
      (record {
        count = length_push exits exit ∙ ap (λ (n : ℕ). n + 1) taken.count;
        laws = holds_more (λ j exit. ∥ ExitLaw exit ∥₁) k exits exit fresh_exit taken.count taken.laws law;
        ends_know = said_more in_known due_at k ends end exits exit fresh_exit taken.count taken.ends_know knows;
      }))
