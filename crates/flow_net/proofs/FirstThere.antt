-- What stands first behind a place of a list stands at it; and where nothing does, nothing stands there.
use Rattle.std.proofs.Common.{◌≡◌, ℕ, zero, suc, List, [], ◌∷◌, get_or, drop, Some, None, refl}
use Rattle.flow_intake.specs.Calls.{first_of}

module _ {A : Type 0} (d : A) where
  pub at_first : (xs : List A) (n : ℕ) (x : A) → first_of (drop n xs) ≡ Some x → get_or xs n d ≡ x
  at_first [] zero x e = absurd (cc)
  at_first [] (suc n) x e = absurd (cc)
  at_first (one ∷ rest) zero x e = cc
  at_first (one ∷ rest) (suc n) x e = at_first rest n x e

  pub at_none : (xs : List A) (n : ℕ) → first_of (drop n xs) ≡ None → get_or xs n d ≡ d
  at_none [] zero e = refl
  at_none [] (suc n) e = refl
  at_none (one ∷ rest) zero e = absurd (cc)
  at_none (one ∷ rest) (suc n) e = at_none rest n e
