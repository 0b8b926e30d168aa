use Rattle.std.proofs.Common.{◌≡◌, filter}
use Rattle.flow_link.specs.Lists.{below}
use Rattle.flow_link.specs.Planned.{layout_of}
use Rattle.flow_task.specs.Inputs.{begins_at_input}
use Rattle.flow_task.proofs.frame.input_links.Given as goal

abbrev pub invariant-loop-id : goal.invariant-loop-id
invariant-loop-id g l = l.links.items ≡ filter (begins_at_input (layout_of l.fn.plan)) (below l.id)
