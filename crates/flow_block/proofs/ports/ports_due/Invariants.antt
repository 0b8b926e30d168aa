use Rattle.std.proofs.Common.{◌≡◌, ◌+◌, drop}
use Rattle.flow_block.specs.JournalFits.{ports_due}
use Rattle.flow_block.proofs.ports.ports_due.Given as goal

abbrev pub invariant-loop-port : goal.invariant-loop-port
invariant-loop-port l = l.total + ports_due (drop l.port-index l.ports) ≡ ports_due l.ports
