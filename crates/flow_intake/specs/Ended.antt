-- What a port has seen come over links that have ended.
use Rattle.std.specs.Prelude.{ℕ, ltb, Bool, true, false, cond, List, [], ◌∷◌, Option, Some, None, is_some}
use Rattle.flow_link.specs.declared.phase.LinkEnd.TheVariants.{Complete, Fault}
use Rattle.flow_link.specs.declared.stage.TargetStage.{TargetStage}
use Rattle.flow_link.specs.declared.stage.TargetStage.TheVariants.{Ended}
use Rattle.flow_link.specs.Lists.{some}
use Rattle.flow_intake.specs.Port.{EndState}

-- the end has seen that its link ended with completion, or with a fault
abbrev pub is_completion : TargetStage → Bool
is_completion (Ended Complete) = true
is_completion _ = false

abbrev pub fault_seen : TargetStage → Option ℕ
fault_seen (Ended (Fault number)) = Some number
fault_seen _ = None

abbrev pub has_seen_fault : TargetStage → Bool
has_seen_fault stage = is_some (fault_seen stage)

abbrev pub first_some : Option ℕ → Option ℕ → Option ℕ
first_some (Some number) later = Some number
first_some None later = later

abbrev pub has_seen_completion : List EndState → Bool
has_seen_completion ends = some (λ (end : EndState). is_completion end.stage) ends

-- a fault with the link over which it came
abbrev pub came_over : ℕ → Option ℕ → Option (ℕ × ℕ)
came_over link None = None
came_over link (Some number) = Some (link, number)

abbrev pub fault_over : EndState → Option (ℕ × ℕ)
fault_over end = came_over end.link (fault_seen end.stage)

-- of two faults the one that came over the link with the lower number
abbrev pub of_lower_link : Option (ℕ × ℕ) → Option (ℕ × ℕ) → Option (ℕ × ℕ)
of_lower_link (Some first) (Some later) = Some (cond (ltb later.0 first.0) later first)
of_lower_link (Some first) None = Some first
of_lower_link None later = later

-- of all that came over these links the one over the link with the lowest number
abbrev pub fault_at_ends : List EndState → Option (ℕ × ℕ)
fault_at_ends [] = None
fault_at_ends (end ∷ ends) = of_lower_link (fault_over end) (fault_at_ends ends)
