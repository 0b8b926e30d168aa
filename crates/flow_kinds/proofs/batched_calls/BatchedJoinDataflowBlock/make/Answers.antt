use Rattle.std.proofs.Common.{◌≡◌, true, Option, ap, sym, subst, ◌∙◌}
use Rattle.flow_link.specs.BlockCalls.{Stays}
use Rattle.flow_link.specs.declared.trace.Outcome.{Outcome}
use Rattle.flow_block.specs.Peeks.{may_make}
use Rattle.flow_block.specs.Traits.{outcome_of}
use Rattle.flow_kinds.specs.BatchedJoin.{JoinState}
use Rattle.flow_kinds.proofs.DueMessages.{group_fits}
use Rattle.flow_kinds.proofs.GroupsGoOn.{grouping_goes_on}
use Rattle.flow_kinds.proofs.batched_calls.BatchedJoinDataflowBlock.make.Goals as goal

pub invariant_of-self : goal.invariant_of-self
invariant_of-self c =
    let block = c.self.inside.block in
    let order = c.self.inside.order in
    let made = c.make_group.ensures in
    group_fits block c.make_group.new.self order c.make_group.new.order block.size c.make_group.result c.self.invariant made.done
    made.dropped made.kept made.order_kept

pub returns-clause-stays : goal.returns-clause-stays
returns-clause-stays c =
    let inside = c.self.inside.block in
    let may : may_make inside ≡ true = ap (λ (join : JoinState). may_make join.block) c.self.view_is ∙ sym c.if-not-has_group.ensures.told in
    let same = ap (λ (join : JoinState). outcome_of join.block) c.self.view_is in
    let going = grouping_goes_on inside may in
    subst (λ (before : Option Outcome). Stays before (outcome_of c.make_group.new.self)) (sym (sym same ∙ going)) tt
