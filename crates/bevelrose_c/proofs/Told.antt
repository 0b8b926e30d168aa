-- What is told of a run that has no report.
use Rattle.std.proofs.Common.{◌≡◌, ℕ, List, Option, Result, Err, MatchResult, inl, inr, subst}
use Rattle.flow_link.specs.Layout.{Layout}
use Rattle.flow_value.specs.declared.steps.Steps.{Steps}
use Rattle.bevelrose_c.specs.Answers.{Answer, IsRunIn, TellsOrLacks, plan_in}
use Rattle.bevelrose_c.specs.Ran.{IsUnreported, OfHeld}
use Rattle.bevelrose_c.specs.declared.network.Network.{Network}
use Rattle.bevelrose_c.specs.declared.refusal.Refusal.{Refusal}
use Rattle.bevelrose_c.specs.declared.refusal.Refusal.TheVariants.{Memory}

module _ (Says : Answer) (held : Option Network) (records : List ℕ) (limit : ℕ) (refusal : Refusal) where
  told_of : OfHeld (plan_in held) (λ plan. IsUnreported plan records limit refusal) → TellsOrLacks Says refusal → IsRunIn Says held records limit
  told_of (plan, is, why) (inl tells) = inr (plan, is, inr (refusal, why, tells))
  told_of (plan, is, why) (inr lacks) = inr (plan, is, inr (Memory, tt, lacks))

  -- where this is what came of the run
  pub told : {O : Type 0} (Reports : Layout Steps → O → Type 0) (done : Result O Refusal) → done ≡ Err refusal
      → OfHeld (plan_in held) (λ plan. MatchResult done (Reports plan) (IsUnreported plan records limit)) → TellsOrLacks Says refusal
      → IsRunIn Says held records limit
  told {O} Reports done is outcome =
      told_of (subst (λ (d : Result O Refusal). OfHeld (plan_in held) (λ plan. MatchResult d (Reports plan) (IsUnreported plan records limit))) is outcome)
