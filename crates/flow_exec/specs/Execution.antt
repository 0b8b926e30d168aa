-- An execution block as plain data: a block with a function, and its work. What holds of each, which job it begins next, and
-- which results it takes back.
use Rattle.std.specs.Prelude.{◌≡◌, ℕ, ◌+◌, ◌≤◌, Bool, true, false, List, length, get_or, Option, Some, None, Result, pos}
use Rattle.flow_value.specs.declared.value.Value.{Value}
use Rattle.flow_value.specs.declared.value.Value.TheVariants.{Int}
use Rattle.flow_value.specs.declared.work.WorkFault.{WorkFault}
use Rattle.flow_link.specs.declared.draft.BlockKind.{BlockKind}
use Rattle.flow_link.specs.Plan.{has_work}
use Rattle.flow_intake.specs.Port.{PortState}
use Rattle.flow_outlet.specs.Outlet.{lacks_ids}
use Rattle.flow_outlet.specs.declared.ends.LinkRule.{LinkRule}
use Rattle.flow_outlet.specs.declared.fault.OutletFault.{OutletFault}
use Rattle.flow_outlet.specs.declared.fault.OutletFault.TheVariants as outlet
use Rattle.flow_block.specs.Block.{BlockState, held_by, job_message, begins, ends_job, put_by_job}
use Rattle.flow_block.specs.BlockFits.{fresh_block}
use Rattle.flow_block.specs.Jobs.{out_count, is_front_back}
use Rattle.flow_block.specs.Peeks.{may_end}
use Rattle.flow_exec.specs.Jobs.{work_in, kind_in, message_in, ticket_in}
use Rattle.flow_exec.specs.Works.{results_by}
use Rattle.flow_exec.specs.declared.fault.EndFault.{EndFault}
use Rattle.flow_exec.specs.declared.fault.EndFault.TheVariants.{Ids, Memory}
use Rattle.flow_exec.specs.declared.job.Job.{Job}

pub record ExecutionState (W : Type 0) : Type 0 where
  pub block : BlockState
  -- without a work, what it makes of a message is the message
  pub work : Option W

-- what holds of each execution block, whatever is called
pub record Runs (block : BlockState) : Type 0 where
  pub one_port : length block.ports ≡ 1
  pub works : has_work block.kind ≡ true
  -- no more messages are out than it has lanes, and it works on none that it does not hold
  pub within : out_count block.jobs.slots ≤ block.jobs.lanes
  pub held : length block.jobs.slots ≤ length (held_by block)
  -- what came back in its turn came out, unless it is a fault
  pub drained : block.fault ≡ None → is_front_back block.jobs.slots ≡ false

-- the job that begins next is of the oldest message that is not worked on yet
abbrev pub next_message : BlockState → Value
next_message block = get_or (held_by block) (length block.jobs.slots) (Int (pos 0))

abbrev pub next_ticket : BlockState → ℕ
next_ticket block = block.jobs.first + length block.jobs.slots

-- a result is not taken back where its block cannot take it
abbrev pub fault_of : OutletFault → EndFault
fault_of outlet.Ids = Ids
fault_of outlet.Memory = Memory

module _ {W : Type 0} where
  abbrev pub fresh_execution : BlockKind → ℕ → Option W → List PortState → List LinkRule → ExecutionState W
  fresh_execution kind lanes work ports rules = record { block = fresh_block kind lanes 0 ports rules; work = work }

  abbrev pub with_block : (BlockState → BlockState) → ExecutionState W → ExecutionState W
  with_block change execution = record execution { block = change execution.block }

  -- Its jobs

  pub record IsNextJob (execution : ExecutionState W) (job : Job W) : Type 0 where
    pub ticket : ticket_in job ≡ next_ticket execution.block
    pub message : message_in job ≡ next_message execution.block
    pub kind : kind_in job ≡ execution.block.kind
    pub work : work_in job ≡ execution.work

  abbrev pub begins_job : ExecutionState W → ExecutionState W
  begins_job execution = with_block begins execution

  -- both have no work, or works that are equal
  abbrev pub SameWork : (W → W → Bool) → Option W → Option W → Type 0
  SameWork equal (Some its) (Some given) = equal its given ≡ true
  SameWork equal None None = Unit {0}
  SameWork equal _ _ = ⊥

  -- its ticket is out, and it is of that message, by a work that is equal to the block's
  pub record IsOwnJob (equal : W → W → Bool) (execution : ExecutionState W) (job : Job W) : Type 0 where
    pub out : may_end (ticket_in job) execution.block ≡ true
    pub kind : kind_in job ≡ execution.block.kind
    pub message : message_in job ≡ job_message (ticket_in job) execution.block
    pub work : SameWork equal execution.work (work_in job)

  module _ (meaning : W → Value → Result (List Value) WorkFault) (ticket : ℕ) where
    -- what its own work makes of the message with this ticket
    abbrev pub job_result : ExecutionState W → Result (List Value) ℕ
    job_result execution =
        results_by execution.work execution.block.kind meaning (job_message ticket execution.block)

    -- that comes back
    abbrev pub ends_own_job : ExecutionState W → ExecutionState W
    ends_own_job execution = with_block (ends_job ticket (job_result execution)) execution

    -- message ids are used up by what would come out then
    abbrev pub lacks_job_ids : ExecutionState W → Bool
    lacks_job_ids execution =
        lacks_ids (put_by_job ticket (job_result execution) execution.block) execution.block.exits
