use Rattle.std.proofs.Common.{◌≡◌, map}
use Rattle.flow_link.specs.Lists.{below}
use Rattle.flow_link.specs.Planned.{layout_of}
use Rattle.flow_block.specs.Planned.{port_of_plan}
use Rattle.flow_block.proofs.planned.ports_of.Given as goal

abbrev pub invariant-loop-port : goal.invariant-loop-port
invariant-loop-port g l = l.ports.items ≡ map (port_of_plan (layout_of l.plan) l.block) (below l.port)
