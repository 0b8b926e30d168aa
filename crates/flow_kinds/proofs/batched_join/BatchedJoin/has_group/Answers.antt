use Rattle.std.proofs.Common.{◌≤◌, length, ap, sym, subst, ◌∙◌}
use Rattle.flow_group.specs.Tuple.{all_ended}
use Rattle.flow_kinds.specs.BatchedJoin.{JoinState}
use Rattle.flow_kinds.proofs.GroupsGoOn.{groups_are_whole}
use Rattle.flow_kinds.proofs.batched_join.BatchedJoin.has_group.Goals as goal

pub returns-clause-whole : goal.returns-clause-whole
returns-clause-whole c may unended =
    let inside = c.self.inside in
    let here = ap (λ (join : JoinState). all_ended join.block.ports) c.self.view_is ∙ unended in
    subst (λ (join : JoinState). join.block.size ≤ length join.order) c.self.view_is
    (groups_are_whole inside.block inside.order c.self.invariant (sym c.may_make.ensures ∙ may) here)
