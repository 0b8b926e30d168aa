use Rattle.std.proofs.Common.{◌≡◌, map}
use Rattle.flow_link.specs.Lists.{below}
use Rattle.flow_link.specs.Planned.{layout_of}
use Rattle.flow_block.specs.Routes.{route_of}
use Rattle.flow_block.proofs.planned.routes_of.Given as goal

abbrev pub invariant-loop-id : goal.invariant-loop-id
invariant-loop-id g l = l.routes.items ≡ map (route_of (layout_of l.plan)) (below l.id)
