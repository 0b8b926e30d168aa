-- What becomes of the messages of a block with a function that a caller drives by hand, over any calls.
use Rattle.std.specs.Prelude.{◌≡◌, ℕ, true, List, [], ◌++◌, Option, Some, Result, ◌+◌, length}
use Rattle.flow_value.specs.declared.value.Value.{Value}
use Rattle.flow_value.specs.declared.work.WorkFault.{WorkFault}
use Rattle.flow_link.specs.declared.draft.BlockKind.{BlockKind}
use Rattle.flow_link.specs.Making.{Arrival}
use Rattle.flow_link.specs.Plan.{has_work, is_one_taker}
use Rattle.flow_intake.specs.Port.{PortState, coming}
use Rattle.flow_outlet.specs.declared.ends.LinkRule.{LinkRule}
use Rattle.flow_block.specs.Block.{held_by, put_by_job, port_at}
use Rattle.flow_block.specs.Jobs.{AreOf}
use Rattle.flow_block_law.specs.NodeLaw.{MakesAs, FaultsOn, WeighsAs}
use Rattle.flow_block.specs.Peeks.{may_begin, may_end}
use Rattle.flow_exec.specs.Calls.{Learns, Acts, Gives, Takes}
use Rattle.flow_exec.specs.Execution.{ExecutionState, Runs, fresh_execution, begins_job, job_result, ends_own_job}
use Rattle.flow_exec.specs.Works.{results_by}
use Rattle.flow_link.specs.LinkOk.{IsWithin}
use Rattle.flow_outlet.specs.Fits.{weight_of}
use Rattle.flow_history.specs.Calls.{MayCallInOrder, Call, MayCall, Fits, Step, AllDone, after_all}
use Rattle.flow_history.specs.History.{Gift, History, nothing_yet, took_at, given, came_by, gave_by, history_of}
use Rattle.flow_history.specs.Kept.{NothingCame}

-- a call that all blocks have in common; the next job begins; the result of the job with this ticket comes back
pub data WorkCall : Type 0 where
  common : Call → WorkCall
  began : WorkCall
  ended : ℕ → WorkCall

abbrev pub gave_for : WorkCall → List Gift
gave_for (WorkCall.common call) = gave_by call
gave_for _ = []

module _ {W : Type 0} where
  abbrev pub MayCallWork : WorkCall → ExecutionState W → Type 0
  MayCallWork (WorkCall.common call) execution = MayCall call execution.block
  MayCallWork WorkCall.began execution = may_begin execution.block ≡ true
  MayCallWork (WorkCall.ended ticket) execution = may_end ticket execution.block ≡ true

  abbrev pub MayCallWorkInOrder : WorkCall → ExecutionState W → Type 0
  MayCallWorkInOrder (WorkCall.common call) execution = MayCallInOrder call execution.block
  MayCallWorkInOrder WorkCall.began execution = MayCallWork WorkCall.began execution
  MayCallWorkInOrder (WorkCall.ended ticket) execution = MayCallWork (WorkCall.ended ticket) execution

  -- facts of each execution block
  pub record FitsWork (execution : ExecutionState W) : Type 0 where
    pub fits : Fits execution.block
    pub runs : Runs execution.block

  abbrev pub came_for : WorkCall → ExecutionState W → List Arrival
  came_for (WorkCall.common call) execution = came_by call execution.block
  came_for _ execution = []

  module _ (meaning : W → Value → Result (List Value) WorkFault) where
    abbrev pub DoesWork : WorkCall → ExecutionState W → ExecutionState W → Type 0
    DoesWork (WorkCall.common (Call.acts call)) old new = Acts old call new
    DoesWork (WorkCall.common (Call.gives call)) old new = Gives old call new
    DoesWork (WorkCall.common (Call.takes call)) old new = Takes old call new
    DoesWork (WorkCall.common Call.asked) old new = Learns old new
    DoesWork WorkCall.began old new = new ≡ begins_job old
    DoesWork (WorkCall.ended ticket) old new = new ≡ ends_own_job meaning ticket old

    -- what comes out with a result: its own values, and those of the results that waited for it
    abbrev pub worked_out : WorkCall → ExecutionState W → List Value
    worked_out (WorkCall.ended ticket) execution = put_by_job ticket (job_result meaning ticket execution) execution.block
    worked_out _ execution = []

    -- what its own work makes of a message
    abbrev pub result_in : ExecutionState W → Value → Result (List Value) ℕ
    result_in execution = results_by execution.work execution.block.kind meaning

    pub record KeepsWork (history : History) (execution : ExecutionState W) : Type 0 where
      -- each value of a result is given once, in order, or is left
      pub shared : is_one_taker execution.block.kind ≡ true → history.made ≡ given history.gave ++ execution.block.exits.left
      -- what it gave, has left or recorded are the results of the messages that it took, in order, but for those that it holds
      pub makes : MakesAs (result_in execution) execution.block.kind (took_at history 0) (held_by execution.block) (given history.gave)
          execution.block.exits.left execution.block.recorded
      -- a result that waits for its turn is that of its message
      pub waits : AreOf (result_in execution) (held_by execution.block) execution.block.jobs.slots
      -- its own fault is that of the message that it holds first
      pub faulted : (number : ℕ) → execution.block.fault ≡ Some number
          → FaultsOn (result_in execution) execution.block.kind (held_by execution.block) number
      -- where it has a capacity, each message whose result is not wholly given has a weight; that, what it holds and what comes fit
      -- into the capacity
      pub weighs : WeighsAs (result_in execution) execution.block.kind (port_at 0 execution.block).capacity (took_at history 0)
          (held_by execution.block) (given history.gave) execution.block.exits.left execution.block.exits.next
          execution.block.exits.groups
      pub within : IsWithin (port_at 0 execution.block).capacity
          (length (held_by execution.block) + weight_of execution.block.exits.groups + coming (port_at 0 execution.block))

-- over any calls, from an execution block to which nothing came
pub record WorkIsKept (W : Type 0) : Type 0 where
  pub each : (meaning : W → Value → Result (List Value) WorkFault) (kind : BlockKind) (lanes : ℕ) (work : Option W)
      (ports : List PortState) (rules : List LinkRule) → has_work kind ≡ true → NothingCame ports
      → FitsWork (fresh_execution kind lanes work ports rules)
      → (steps : List (Step WorkCall (ExecutionState W)))
      → AllDone FitsWork MayCallWorkInOrder (DoesWork meaning) steps (fresh_execution kind lanes work ports rules)
      → KeepsWork meaning
      (history_of came_for (worked_out meaning) gave_for steps (fresh_execution kind lanes work ports rules) nothing_yet)
      (after_all steps (fresh_execution kind lanes work ports rules))
