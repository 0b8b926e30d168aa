use Rattle.std.proofs.Common.{◌≡◌, map}
use Rattle.flow_link.specs.Lists.{below}
use Rattle.flow_link.specs.Planned.{layout_of}
use Rattle.flow_block.specs.Planned.{fresh_node}
use Rattle.flow_moves.proofs.fresh.nodes_of.Given as goal

abbrev pub invariant-loop-number : goal.invariant-loop-number
invariant-loop-number g l = l.nodes.items ≡ map (fresh_node (layout_of l.plan)) (below l.number)
