-- What became of a block, by its journal, and by whether it is complete.
use Rattle.std.specs.Prelude.{ℕ, Bool, true, false, List, [], ◌∷◌, Option, Some, None}
use Rattle.flow_link.specs.declared.trace.Mark.{Mark}
use Rattle.flow_link.specs.declared.trace.Outcome.{Outcome}
use Rattle.flow_link.specs.declared.trace.Outcome.TheVariants as outcome
use Rattle.flow_link.specs.declared.trace.Mark.TheVariants.{Took, Gave, Complete, Fault, Done}
use Rattle.flow_link.specs.declared.trace.Outcome.{Outcome}
use Rattle.flow_link.specs.declared.trace.Outcome.TheVariants as outcome
use Rattle.flow_lawful.specs.Endings.{is_complete}
use Rattle.flow_link.specs.Trace.{Run, is_done, marks_of}
use Rattle.flow_net.specs.declared.settled.State.{State}
use Rattle.flow_net.specs.declared.settled.State.TheVariants as state

-- the number of a block's fault
abbrev pub fault_in : List Mark → Option ℕ
fault_in [] = None
fault_in (Fault number ∷ marks) = Some number
fault_in (Took _ _ _ ∷ marks) = fault_in marks
fault_in (Gave _ _ ∷ marks) = fault_in marks
fault_in (Complete _ ∷ marks) = fault_in marks
fault_in (Done ∷ marks) = fault_in marks

-- a block is faulted or done by its mark; else it is completing or open
abbrev pub state_from : Option ℕ → Bool → Bool → State
state_from (Some number) done complete = state.Faulted number
state_from None true complete = state.Done
state_from None false true = state.Completing
state_from None false false = state.Open

abbrev pub state_by : {W : Type 0} → Run W → ℕ → State
state_by run b = state_from (fault_in (marks_of run b)) (is_done (marks_of run b)) (is_complete run b)

-- the same by how the block stopped and whether it is complete
abbrev pub state_told : Option Outcome → Bool → State
state_told (Some (outcome.Faulted number)) complete = state.Faulted number
state_told (Some outcome.Done) complete = state.Done
state_told None true = state.Completing
state_told None false = state.Open
