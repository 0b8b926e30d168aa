-- Ports that are in order, and ports that are not.
use Rattle.std.specs.Prelude.{ℕ, true, false, [], ◌∷◌, Some, None}
use Rattle.flow_link.specs.declared.stage.Refusal.TheVariants.{PortEnded}
use Rattle.flow_link.specs.declared.stage.TargetStage.{TargetStage}
use Rattle.flow_link.specs.declared.stage.TargetStage.TheVariants.{Accepted, Postponed}
use Rattle.flow_link.specs.Views.{LinkFacts}
use Rattle.flow_intake.specs.Port.{EndState, PortState, fresh_port}
use Rattle.flow_intake.specs.PortLaw.{PortLaw}

-- links of which nothing is said but that a message may be put off
abbrev pub any_link : ℕ → LinkFacts
any_link link = record { steady = false; sole = false; reserving = false; max = None; propagates = false }

-- an end with nothing in hand
abbrev pub end_of : ℕ → TargetStage → EndState
end_of link stage = record { link = link; stage = stage; hand = None }

-- a port with room for one message, which comes; another offer waits
abbrev pub full : PortState
full = record (fresh_port (Some 1)) { ends = end_of 0 (Accepted 1) ∷ end_of 1 (Postponed 1) ∷ []; queue = 1 ∷ [] }

-- two messages come, and there is room for one
abbrev pub over_capacity : PortState
over_capacity = record (fresh_port (Some 1)) { ends = end_of 0 (Accepted 1) ∷ end_of 1 (Accepted 1) ∷ [] }

-- an offer waits, and the queue has forgotten it
abbrev pub forgotten : PortState
forgotten = record (fresh_port None) { ends = end_of 0 (Postponed 1) ∷ [] }

-- a message comes into a port that has ended
abbrev pub too_late : PortState
too_late = record (fresh_port None) { ends = end_of 0 (Accepted 1) ∷ []; refusing = Some PortEnded }

-- an offer waits at a port that takes each message at once
abbrev pub put_off_freely : PortState
put_off_freely = record (fresh_port None) { ends = end_of 0 (Postponed 1) ∷ []; queue = 0 ∷ [] }

abbrev pub steady_link : ℕ → LinkFacts
steady_link link = record (any_link link) { steady = true }

pub record PortExamples : Type 0 where
  pub full_is_in_order : PortLaw any_link 0 full
  pub over_capacity_is_not : ¬ PortLaw any_link 0 over_capacity
  pub forgotten_is_not : ¬ PortLaw any_link 0 forgotten
  pub too_late_is_not : ¬ PortLaw any_link 0 too_late
  pub put_off_freely_is_not : ¬ PortLaw steady_link 0 put_off_freely
