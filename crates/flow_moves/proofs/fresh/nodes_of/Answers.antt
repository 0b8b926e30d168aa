use Rattle.std.proofs.Common.{◌∙◌}
use Rattle.flow_link.specs.Planned.{layout_of}
use Rattle.flow_block.specs.Planned.{fresh_node}
use Rattle.flow_block.proofs.PlanMade.{mapped_more}
use Rattle.flow_moves.proofs.fresh.nodes_of.Goals as goal

pub loop-number-preserved : goal.loop-number-preserved
loop-number-preserved g c =
    c.in_ok-push.ensures.items
    ∙ mapped_more (fresh_node (layout_of c.args.plan.now)) c.loop-number.nodes.items c.loop-number.number
    c.in_ok-node_of.field-0 c.loop-number.invariant c.in_ok-node_of.ensures
