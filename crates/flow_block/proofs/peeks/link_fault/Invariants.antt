use Rattle.std.proofs.Common.{◌≡◌, drop}
use Rattle.flow_intake.specs.Ended.{of_lower_link}
use Rattle.flow_block.specs.Peeks.{link_fault}
use Rattle.flow_block.proofs.peeks.link_fault.Given as goal

abbrev pub invariant-loop-port : goal.invariant-loop-port
invariant-loop-port l = of_lower_link l.lowest (link_fault (drop l.port-index l.ports)) ≡ link_fault l.ports
