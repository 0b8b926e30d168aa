-- How blocks end: what may follow what in a journal, why a port completes or a block faults, and when a link may be refused.
use Rattle.std.specs.Prelude.{◌≡◌, ℕ, ◌==◌, Bool, true, false, not, ◌&&◌, ◌||◌, is_some, List, [], ◌∷◌, Option, Some, None, Result, Ok, Err}
use Rattle.flow_value.specs.declared.value.Value.{Value}
use Rattle.flow_link.specs.declared.draft.BlockKind.{BlockKind}
use Rattle.flow_link.specs.declared.draft.BlockKind.TheVariants.{Buffer, Broadcast, WriteOnce, Action, Transform, TransformMany, Batch, Join, BatchedJoin}
use Rattle.flow_link.specs.declared.plan.LinkSource.{LinkSource}
use Rattle.flow_link.specs.declared.plan.LinkSource.TheVariants.{Block, Input}
use Rattle.flow_link.specs.declared.plan.LinkTarget.{LinkTarget}
use Rattle.flow_link.specs.declared.plan.LinkTarget.TheVariants.{Port, Exit}
use Rattle.flow_link.specs.declared.trace.Mark.{Mark}
use Rattle.flow_link.specs.declared.trace.Mark.TheVariants.{Took, Gave, Complete, Fault, Done}
use Rattle.flow_link.specs.declared.trace.Ending.{Ending}
use Rattle.flow_link.specs.declared.trace.Ending.TheVariants.{Complete as ending_complete, Fault as ending_fault}
use Rattle.flow_link.specs.Plan.{has_work, is_write_once, ends_at_port, ends_at}
use Rattle.flow_link.specs.Lists.{every, some, is_empty}
use Rattle.flow_link.specs.Making.{block_result}
use Rattle.flow_link.specs.Trace.{Run, took, took_at, has_complete, has_fault, has_ended, is_done, block_of, link_of, marks_of, held_at, left_at, ports_of, input_of, waits_over, is_cut, is_refused, block_numbers, link_numbers}

-- nothing follows Fault or Done
abbrev pub stops : List Mark → Bool
stops [] = true
stops (Fault _ ∷ marks) = is_empty marks
stops (Done ∷ marks) = is_empty marks
stops (Took _ _ _ ∷ marks) = stops marks
stops (Gave _ _ ∷ marks) = stops marks
stops (Complete _ ∷ marks) = stops marks

-- after a port's Complete that port takes nothing, and does not complete again
abbrev pub completes_once : List Mark → Bool
completes_once [] = true
completes_once (Complete port ∷ marks) = not (has_complete port marks) && is_empty (took_at port marks) && completes_once marks
completes_once (Took _ _ _ ∷ marks) = completes_once marks
completes_once (Gave _ _ ∷ marks) = completes_once marks
completes_once (Fault _ ∷ marks) = completes_once marks
completes_once (Done ∷ marks) = completes_once marks

abbrev pub is_complete_ending : Ending → Bool
is_complete_ending ending_complete = true
is_complete_ending _ = false

abbrev pub is_fault_ending : ℕ → Ending → Bool
is_fault_ending fault (ending_fault number) = number == fault
is_fault_ending fault _ = false

-- the fault of a result
abbrev pub fault_of : Result (List Value) ℕ → Option ℕ
fault_of (Ok _) = None
fault_of (Err number) = Some number

abbrev pub is_number : ℕ → Option ℕ → Bool
is_number fault None = false
is_number fault (Some number) = number == fault

module _ {W : Type 0} (run : Run W) where
  -- the fault of a block's own work on the first message that is held
  abbrev pub first_fault : ℕ → List Value → Option ℕ
  first_fault b [] = None
  first_fault b (value ∷ _) = fault_of (block_result run b value)

  abbrev pub fault_by_kind : ℕ → Bool → Option ℕ
  fault_by_kind b true = first_fault b (held_at run b 0)
  fault_by_kind b false = None

  abbrev pub own_fault : ℕ → Option ℕ
  own_fault b = fault_by_kind b (has_work (block_of run b).kind)

  -- all its ports have completed, or it is a join whose completed port has no message that waits for partners, or it is
  -- a write-once block with its element
  abbrev pub is_complete_as : BlockKind → ℕ → Bool
  is_complete_as Buffer b = every (λ p. has_complete p (marks_of run b)) (ports_of run b)
  is_complete_as Broadcast b = every (λ p. has_complete p (marks_of run b)) (ports_of run b)
  is_complete_as WriteOnce b = has_complete 0 (marks_of run b) || not (is_empty (took (marks_of run b)))
  is_complete_as Action b = every (λ p. has_complete p (marks_of run b)) (ports_of run b)
  is_complete_as Transform b = every (λ p. has_complete p (marks_of run b)) (ports_of run b)
  is_complete_as TransformMany b = every (λ p. has_complete p (marks_of run b)) (ports_of run b)
  is_complete_as Batch b = every (λ p. has_complete p (marks_of run b)) (ports_of run b)
  is_complete_as Join b =
      every (λ p. has_complete p (marks_of run b)) (ports_of run b)
      || some (λ p. has_complete p (marks_of run b) && is_empty (held_at run b p)) (ports_of run b)
  is_complete_as BatchedJoin b = every (λ p. has_complete p (marks_of run b)) (ports_of run b)

  abbrev pub is_complete : ℕ → Bool
  is_complete b = is_complete_as (block_of run b).kind b

  -- nothing is held or left
  abbrev pub has_nothing : ℕ → Bool
  has_nothing b = every (λ p. is_empty (held_at run b p)) (ports_of run b) && is_empty (left_at run b)

  abbrev pub ends_rightly : ℕ → Bool
  ends_rightly b = not (is_done (marks_of run b)) || (is_complete b && has_nothing b)

  -- the link hands its source's end on
  abbrev pub passes_on : ℕ → Bool
  passes_on l = (link_of run l).propagate && not (is_cut run l) && not (is_refused run l)

  -- completion comes over the link
  abbrev pub brings_from : ℕ → LinkSource → Bool
  brings_from l (Block s) = passes_on l && is_done (marks_of run s)
  brings_from l (Input s) = is_complete_ending (input_of run s).ending && is_empty (waits_over run s l)

  abbrev pub brings_completion : ℕ → Bool
  brings_completion l = brings_from l (link_of run l).source

  -- this fault comes over the link
  abbrev pub faults_from : ℕ → ℕ → LinkSource → Bool
  faults_from fault l (Block s) = passes_on l && has_fault fault (marks_of run s)
  faults_from fault l (Input s) = is_fault_ending fault (input_of run s).ending && is_empty (waits_over run s l)

  abbrev pub brings_fault : ℕ → ℕ → Bool
  brings_fault fault l = faults_from fault l (link_of run l).source

  abbrev pub has_cause : ℕ → Mark → Bool
  has_cause b (Complete p) =
      some (λ l. ends_at_port b p (link_of run l).target && brings_completion l) (link_numbers run)
      || (is_write_once (block_of run b).kind && not (is_empty (took_at p (marks_of run b))))
  has_cause b (Fault fault) =
      is_number fault (own_fault b)
      || some (λ l. ends_at b (link_of run l).target && brings_fault fault l) (link_numbers run)
  has_cause b _ = true

  abbrev pub has_causes : ℕ → Bool
  has_causes b = every (has_cause b) (marks_of run b)

  -- whoever refused had ended, or has a fault of its own
  abbrev pub refuses_rightly : LinkTarget → Bool
  refuses_rightly (Port b p) = has_ended p (marks_of run b) || is_some (own_fault b)
  refuses_rightly Exit = false

  abbrev pub is_rightly_refused : ℕ → Bool
  is_rightly_refused l = not (is_refused run l) || refuses_rightly (link_of run l).target

  abbrev pub stops_at : ℕ → Bool
  stops_at b = stops (marks_of run b)

  abbrev pub completes_once_at : ℕ → Bool
  completes_once_at b = completes_once (marks_of run b)

-- each block ends for a cause, and then does no more
pub record Endings {W : Type 0} (run : Run W) : Type 0 where
  pub last : every (stops_at run) (block_numbers run) ≡ true
  pub once : every (completes_once_at run) (block_numbers run) ≡ true
  pub done : every (ends_rightly run) (block_numbers run) ≡ true
  pub causes : every (has_causes run) (block_numbers run) ≡ true
  pub refusals : every (is_rightly_refused run) (link_numbers run) ≡ true
