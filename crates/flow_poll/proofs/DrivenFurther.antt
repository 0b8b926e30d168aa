-- Steps one after another, until one moves nothing.
use Rattle.std.proofs.Common.{◌≡◌, ◌≢◌, ℕ, zero, suc, ◌-◌, Result, Ok, refl, arith}
use Rattle.std.specs.declared.alloc.AllocError.{AllocError}
use Rattle.flow_poll.specs.declared.actor.TurnState.{TurnState}
use Rattle.flow_poll.specs.declared.actor.TurnState.TheVariants.{Moved}
use Rattle.flow_poll.specs.Turns.{IsDriven}

module _ {S : Type 0} (step : S → Result TurnState AllocError → S → Type 0) where
  -- no step is left
  pub used_up : (turns : ℕ) (state : S) → turns ≡ 0 → IsDriven step turns state (Ok Moved) state
  used_up turns state none = rw none (refl, refl)

  -- the first step moves something, and the others go on
  pub driven_further : (turns : ℕ) (first next last : S) (answer : Result TurnState AllocError) → turns ≢ 0
      → step first (Ok Moved) next → IsDriven step (turns - 1) next answer last → IsDriven step turns first answer last
  driven_further zero first next last answer some went later = absurd (some refl)
  driven_further (suc left) first next last answer some went later =
      let less : suc left - 1 ≡ left = omega arith in
      (Ok Moved, (next, (went, rw less at later)))
