use Rattle.std.proofs.Common.{◌≡◌, ◌++◌, length}
use Rattle.flow_reading.specs.Printed.{ports_text}
use Rattle.flow_reading.proofs.report.read_ports.Given as goal

abbrev pub invariant-loop-ports : goal.invariant-loop-ports
invariant-loop-ports l = l.fn.lines.rest.now ≡ ports_text 0 l.ports.items ++ l.lines.rest.now

abbrev pub decreases-loop-ports : goal.decreases-loop-ports
decreases-loop-ports l = length l.lines.rest.now
