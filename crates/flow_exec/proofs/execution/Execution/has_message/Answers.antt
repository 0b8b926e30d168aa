use Rattle.std.proofs.Common.{ℕ, ap, sym, ◌∙◌}
use Rattle.flow_value.specs.Same.{same_value-Decides}
use Rattle.flow_block.specs.Block.{BlockState, job_message}
use Rattle.flow_exec.specs.Execution.{ExecutionState}
use Rattle.flow_exec.specs.Jobs.{ticket_in}
use Rattle.flow_exec.proofs.execution.Execution.has_message.Goals as goal

pub returns : goal.returns
returns g c =
    let block_is = ap (λ (e : ExecutionState _). e.block) c.self.view_is in
    let held = c.job_message.ensures
    ∙ ap (λ (ticket : ℕ). job_message ticket c.self.inside.block) c.ticket.ensures
    ∙ ap (λ (block : BlockState). job_message (ticket_in c.args.job.now) block) block_is in
    let same = same_value-Decides c.job_message.result.now c.message.result.now in (
      λ is. sym c.message.ensures ∙ sym (same.0 (sym c.eq.ensures ∙ is)) ∙ held,
      λ is. c.eq.ensures ∙ same.1 (held ∙ sym is ∙ sym c.message.ensures),
    )
