use Rattle.std.proofs.Common.{ℕ, ◌≤◌, length, ap, sym, subst, ◌∙◌}
use Rattle.flow_link.specs.Planned.{layout_of}
use Rattle.flow_block.specs.Block.{BlockState, held_by, job_message}
use Rattle.flow_exec.specs.Jobs.{ticket_in}
use Rattle.flow_exec.specs.Works.{works_of}
use Rattle.flow_value.specs.Same.{same_value-Decides}
use Rattle.flow_task.proofs.OwnSteps.{planned}
use Rattle.flow_task.proofs.task.BlockTask.is_out.Goals as goal

pub job_message-requires-clause-held : goal.job_message-requires-clause-held
job_message-requires-clause-held g c =
    let s = c.args.self.now in
    let layout = layout_of s.of.value.rest.plan in
    subst (λ (block : BlockState). length block.jobs.slots ≤ length (held_by block)) (sym c.block-block.ensures)
    (planned layout (works_of g.W.Runs.meaning layout) s.number s.node s.law).begun

pub returns-then-eq-clause-message : goal.returns-then-eq-clause-message
returns-then-eq-clause-message g c is =
    let same = (same_value-Decides c.job_message.result.now c.message.result.now).0 (sym c.eq-then-eq.ensures ∙ is) in
    sym c.message.ensures ∙ sym same ∙ c.job_message.ensures
    ∙ ap (λ (ticket : ℕ). job_message ticket c.block-block.result.now) c.ticket-then-eq.ensures
    ∙ ap (λ (block : BlockState). job_message (ticket_in c.args.job.now) block) c.block-block.ensures

pub returns-then-eq-clause-only : goal.returns-then-eq-clause-only
returns-then-eq-clause-only g c own =
    let same = c.job_message.ensures
    ∙ ap (λ (ticket : ℕ). job_message ticket c.block-block.result.now) c.ticket-then-eq.ensures
    ∙ ap (λ (block : BlockState). job_message (ticket_in c.args.job.now) block) c.block-block.ensures
    ∙ sym own.message ∙ sym c.message.ensures in
    c.eq-then-eq.ensures ∙ (same_value-Decides c.job_message.result.now c.message.result.now).1 same
