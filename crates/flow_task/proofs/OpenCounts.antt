-- How many inputs are entries, and how many are not.
use Rattle.std.proofs.Common.{◌≡◌, ℕ, ◌+◌, Bool, false, cond, List, [], ◌∷◌, length, filter, get_or, refl, sym, ap, ◌∙◌}
use Rattle.std.specs.List.{count_by}
use Rattle.std.proofs.lemmas.List.Sums.{sum_by-cons}
use Rattle.flow_link.specs.Lists.{below, numbers_from}
use Rattle.flow_link.proofs.PlacesOfNumbers.{count_shift, length_cond}

-- those that pass a test, by their places
pub count_places : (test : Bool → Bool) (opens : List Bool)
    → count_by test opens ≡ length (filter (λ q. test (get_or opens q false)) (below (length opens)))
count_places test [] = refl
count_places test (x ∷ opens) =
    let passes : ℕ → Bool = λ q. test (get_or (x ∷ opens) q false) in
    sum_by-cons (λ y. cond (test y) 1 0) x opens
    ∙ ap (λ (n : ℕ). cond (test x) 1 0 + n) (count_places test opens ∙ sym (count_shift passes 0 (length opens)))
    ∙ sym (length_cond (test x) 0 (filter passes (numbers_from 1 (length opens))))
