use Rattle.std.proofs.Common.{◌≡◌, ℕ, List, [], ◌∷◌, Bool, true, false, cond, eqb, refl, ap}
use Rattle.std.proofs.lemmas.Bool.{eqb-true}
use Rattle.flow_value.specs.Number.{without_minus}
use Rattle.flow_value.proofs.number.without_minus.Goals as goal
use lib.Utf8.{encode}

stays : (bs : List ℕ) → ((rest : List ℕ) → bs ≡ 45 ∷ rest → ⊥) → bs ≡ without_minus bs
stays [] none = refl
stays (c ∷ cs) none = behind (eqb c 45) refl
  where
    behind : (minus : Bool) → eqb c 45 ≡ minus → (c ∷ cs) ≡ cond minus cs (c ∷ cs)
    behind true e = absurd (none cs (ap (λ d. d ∷ cs) (eqb-true c 45 e)))
    behind false e = refl

pub returns-in-None : goal.returns-in-None
unfolding encode
returns-in-None c = stays c.args.text.now c.in-None.ensures.cases
