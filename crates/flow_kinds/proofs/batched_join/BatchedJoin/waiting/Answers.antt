use Rattle.std.proofs.Common.{ap, ◌∙◌}
use Rattle.flow_block.specs.Groups.{waiting_in_all}
use Rattle.flow_kinds.specs.BatchedJoin.{JoinState}
use Rattle.flow_kinds.proofs.OrderTells.{told_in_all}
use Rattle.flow_kinds.proofs.batched_join.BatchedJoin.waiting.Goals as goal

pub returns-clause-all : goal.returns-clause-all
returns-clause-all c =
    c.len.ensures ∙ told_in_all c.self.inside.order.ports c.self.inside.block.ports c.self.invariant.tells
    ∙ ap (λ (join : JoinState). waiting_in_all join.block.ports) c.self.view_is
