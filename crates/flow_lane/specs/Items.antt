-- What lies in the slot of a lane's table, and which job it is of, as plain data.
use Rattle.std.specs.Prelude.{ℕ, Option}
use Rattle.flow_value.specs.declared.value.Value.{Value}
use Rattle.flow_link.specs.declared.draft.BlockKind.{BlockKind}
use Rattle.flow_exec.specs.Jobs.{work_in, kind_in, message_in, ticket_in}
use Rattle.flow_exec.specs.Results.{job_in}
use Rattle.flow_exec.specs.declared.job.Job.{Job}
use Rattle.flow_exec.specs.declared.result.JobResult.{JobResult}
use Rattle.flow_lane.specs.declared.item.LaneItem.{LaneItem}
use Rattle.flow_lane.specs.declared.item.LaneItem.TheVariants as item

-- all that a job has
pub record JobState (W : Type 0) : Type 0 where
  pub work : Option W
  pub kind : BlockKind
  pub message : Value
  pub ticket : ℕ

abbrev pub ticket_of : {W : Type 0} → JobState W → ℕ
ticket_of job = job.ticket

abbrev pub state_of : {W : Type 0} → Job W → JobState W
state_of job = record { work = work_in job; kind = kind_in job; message = message_in job; ticket = ticket_in job }

module _ {W : Type 0} {w : _} {e : _} where
  abbrev pub as_job : Job W → LaneItem W w e
  as_job job = item.Job job

  abbrev pub as_result : JobResult W w e → LaneItem W w e
  as_result done = item.Result done

  -- that of the job that the result came of
  abbrev pub state_in : JobResult W w e → JobState W
  state_in done = state_of (job_in done)
