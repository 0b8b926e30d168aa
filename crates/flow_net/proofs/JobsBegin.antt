-- A job that begins is the next of its block, where its work is the block's.
use Rattle.std.proofs.Common.{◌≡◌, ℕ, ◌<◌, Bool, length, Option, Result, Ok, Err, IfOk, sym, subst}
use Rattle.flow_link.specs.Layout.{Layout}
use Rattle.flow_link.specs.Plan.{block_in}
use Rattle.flow_exec.specs.Execution.{SameWork, next_message, next_ticket}
use Rattle.flow_exec.specs.Jobs.{work_in, kind_in, message_in, ticket_in}
use Rattle.flow_exec.specs.declared.job.Job.{Job}
use Rattle.flow_core.specs.State.{NetState, node_at}
use Rattle.flow_net.specs.OwnJobs.{IsNextJob}

module _ {W : Type 0} (equal : W → W → Bool) (layout : Layout W) (net : NetState) (b : ℕ) (there : b < length layout.blocks)
    (work : Option W) (same : SameWork equal (block_in layout.blocks b).work work) where
  pub begun_next : {E : Type 0} (result : Result (Job W) E)
      → IfOk result (λ job. ticket_in job ≡ next_ticket (node_at net b).block)
      → IfOk result (λ job. message_in job ≡ next_message (node_at net b).block)
      → IfOk result (λ job. kind_in job ≡ (node_at net b).block.kind)
      → IfOk result (λ job. work_in job ≡ work)
      → IfOk result (IsNextJob equal layout net b)
  begun_next (Ok job) ticket message kind work_is = record {
    there = there;
    ticket = ticket;
    message = message;
    kind = kind;
    work = subst (λ (w : Option W). SameWork equal (block_in layout.blocks b).work w) (sym work_is) same;
  }
  begun_next (Err fault) ticket message kind work_is = tt
