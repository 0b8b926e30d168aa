-- The links that pass a test are found one by one.
use Rattle.std.proofs.Common.{◌≡◌, ℕ, ◌+◌, Bool, true, false, cond, List, [], ◌∷◌, ◌++◌, filter, ap, sym, ◌∙◌, append-nil}
use Rattle.std.proofs.lemmas.List.Elements.{filter-append}
use Rattle.flow_link.specs.Lists.{below}
use Rattle.flow_link.proofs.ListTests.{below_more}

module _ (test : ℕ → Bool) (n : ℕ) (found : List ℕ) (so_far : found ≡ filter test (below n)) where
  one_more : filter test (below (n + 1)) ≡ found ++ cond (test n) (n ∷ []) []
  one_more =
      ap (filter test) (below_more n) ∙ filter-append test (below n) (n ∷ [])
      ∙ ap (λ (ls : List ℕ). ls ++ cond (test n) (n ∷ []) []) (sym so_far)

  pub found_where : test n ≡ true → found ++ n ∷ [] ≡ filter test (below (n + 1))
  found_where passes = sym (one_more ∙ ap (λ (b : Bool). found ++ cond b (n ∷ []) []) passes)

  pub found_else : test n ≡ false → found ≡ filter test (below (n + 1))
  found_else not_it = sym (one_more ∙ ap (λ (b : Bool). found ++ cond b (n ∷ []) []) not_it ∙ append-nil found)
