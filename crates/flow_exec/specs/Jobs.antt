-- What a job is of.
use Rattle.std.specs.Prelude.{ℕ, Option, option_map}
use Rattle.std.specs.Arc.{arc_value}
use Rattle.flow_value.specs.declared.value.Value.{Value}
use Rattle.flow_link.specs.declared.draft.BlockKind.{BlockKind}
use Rattle.flow_exec.specs.declared.job.Job.{Job}

-- the block's work, as it is shared
abbrev pub work_in : {W : Type 0} → Job W → Option W
work_in job = option_map (λ work. arc_value work) job.work

abbrev pub kind_in : {W : Type 0} → Job W → BlockKind
kind_in job = job.kind

abbrev pub message_in : {W : Type 0} → Job W → Value
message_in job = job.message

abbrev pub ticket_in : {W : Type 0} → Job W → ℕ
ticket_in job = job.ticket
