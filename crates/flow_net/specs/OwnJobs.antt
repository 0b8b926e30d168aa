-- Which job a block begins next, and which it takes the result of.
use Rattle.std.specs.Prelude.{◌≡◌, ℕ, ◌<◌, Bool, true, length}
use Rattle.flow_link.specs.Layout.{Layout}
use Rattle.flow_link.specs.Plan.{block_in}
use Rattle.flow_block.specs.Block.{job_message}
use Rattle.flow_block.specs.Peeks.{may_end}
use Rattle.flow_exec.specs.Execution.{SameWork, next_ticket, next_message}
use Rattle.flow_exec.specs.Jobs.{work_in, kind_in, message_in, ticket_in}
use Rattle.flow_exec.specs.declared.job.Job.{Job}
use Rattle.flow_core.specs.State.{NetState, node_at}

-- one that is out, of the message with that ticket, by the block's own work
pub record IsOwnJob {W : Type 0} (equal : W → W → Bool) (layout : Layout W) (net : NetState) (b : ℕ) (job : Job W) : Type 0 where
  pub there : b < length layout.blocks
  pub out : may_end (ticket_in job) (node_at net b).block ≡ true
  pub kind : kind_in job ≡ (node_at net b).block.kind
  pub message : message_in job ≡ job_message (ticket_in job) (node_at net b).block
  pub work : SameWork equal (block_in layout.blocks b).work (work_in job)

-- of the oldest message that is not worked on yet, with its ticket, by the block's own work
pub record IsNextJob {W : Type 0} (equal : W → W → Bool) (layout : Layout W) (net : NetState) (b : ℕ) (job : Job W) : Type 0 where
  pub there : b < length layout.blocks
  pub ticket : ticket_in job ≡ next_ticket (node_at net b).block
  pub message : message_in job ≡ next_message (node_at net b).block
  pub kind : kind_in job ≡ (node_at net b).block.kind
  pub work : SameWork equal (block_in layout.blocks b).work (work_in job)
