use Rattle.std.proofs.Common.{ℕ, ◌<◌, ◌≤◌, length, ap, sym, subst, ◌∙◌}
use Rattle.flow_link.specs.Planned.{layout_of}
use Rattle.flow_block.specs.Block.{BlockState, held_by, job_message}
use Rattle.flow_block.specs.Node.{NodeState}
use Rattle.flow_exec.specs.Jobs.{ticket_in}
use Rattle.flow_exec.specs.Works.{works_of}
use Rattle.flow_moves.proofs.MerelyKept.{blocks_planned}
use Rattle.flow_value.specs.Same.{same_value-Decides}
use Rattle.flow_net.proofs.BlocksTell.{node_there}
use Rattle.flow_net.proofs.engine.Engine.is_out.Goals as goal

pub job_message-requires-clause-ports : goal.job_message-requires-clause-ports
job_message-requires-clause-ports g c =
    let now = c.args.self.now in
    let planned = blocks_planned (layout_of now.plan) (works_of g.W.Runs.meaning (layout_of now.plan)) now.parts
    c.requires.kept c.args.number c.requires.known in
    let block_is = c.block-block.ensures ∙ ap (λ (node : NodeState). node.block) c.node.ensures in
    subst (λ (block : BlockState). 0 < length block.ports) (sym block_is) planned.some_port

pub job_message-requires-clause-held : goal.job_message-requires-clause-held
job_message-requires-clause-held g c =
    let now = c.args.self.now in
    let planned = blocks_planned (layout_of now.plan) (works_of g.W.Runs.meaning (layout_of now.plan)) now.parts
    c.requires.kept c.args.number c.requires.known in
    let block_is = c.block-block.ensures ∙ ap (λ (node : NodeState). node.block) c.node.ensures in
    subst (λ (block : BlockState). length block.jobs.slots ≤ length (held_by block)) (sym block_is) planned.begun

pub returns-then-eq-clause-message : goal.returns-then-eq-clause-message
returns-then-eq-clause-message g c is =
    let same = (same_value-Decides c.job_message.result.now c.message.result.now).0 (sym c.eq-then-eq.ensures ∙ is) in
    let block_is = c.block-block.ensures ∙ ap (λ (node : NodeState). node.block) c.node.ensures in
    sym c.message.ensures ∙ sym same ∙ c.job_message.ensures
    ∙ ap (λ (ticket : ℕ). job_message ticket c.block-block.result.now) c.ticket-then-eq.ensures
    ∙ ap (λ (block : BlockState). job_message (ticket_in c.args.job.now) block) block_is

pub returns-then-eq-clause-only : goal.returns-then-eq-clause-only
returns-then-eq-clause-only g c own =
    let block_is = c.block-block.ensures ∙ ap (λ (node : NodeState). node.block) c.node.ensures in
    let same = c.job_message.ensures
    ∙ ap (λ (ticket : ℕ). job_message ticket c.block-block.result.now) c.ticket-then-eq.ensures
    ∙ ap (λ (block : BlockState). job_message (ticket_in c.args.job.now) block) block_is
    ∙ sym own.message ∙ sym c.message.ensures in
    c.eq-then-eq.ensures ∙ (same_value-Decides c.job_message.result.now c.message.result.now).1 same

pub node-requires : goal.node-requires
node-requires g c =
    node_there g.W.Runs.meaning c.args.self.now.plan c.args.self.now.parts c.requires.kept c.args.number c.requires.known
