use Rattle.std.proofs.Common.{sym, subst}
use Rattle.flow_group.specs.Group.{ArrivalsState}
use Rattle.flow_block.specs.Block.{BlockState}
use Rattle.flow_kinds.specs.BatchedJoin.{JoinFits}
use Rattle.flow_kinds.proofs.DueMessages.{fresh_fits}
use Rattle.flow_kinds.proofs.batched_join.BatchedJoin.of_parts.Goals as goal

pub invariant_of-result : goal.invariant_of-result
invariant_of-result c =
    subst (λ (order : ArrivalsState). JoinFits c.in_ok-block.block order) (sym c.new-2.ensures)
    (subst (λ (block : BlockState). JoinFits block _) (sym c.in_ok-block.ensures)
    (fresh_fits c.args.size c.args.ports.items c.args.rules.items c.requires.waits c.requires.due))
