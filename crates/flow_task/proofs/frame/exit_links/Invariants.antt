use Rattle.std.proofs.Common.{◌≡◌, filter}
use Rattle.flow_link.specs.Lists.{below}
use Rattle.flow_link.specs.Planned.{layout_of}
use Rattle.flow_block.specs.Planned.{leads_out}
use Rattle.flow_task.proofs.frame.exit_links.Given as goal

abbrev pub invariant-loop-id : goal.invariant-loop-id
invariant-loop-id g l = l.links.items ≡ filter (leads_out (layout_of l.fn.plan)) (below l.id)
