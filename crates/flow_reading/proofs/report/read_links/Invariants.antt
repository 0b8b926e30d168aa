use Rattle.std.proofs.Common.{◌≡◌, ◌++◌, length}
use Rattle.std.specs.List.{flat_map}
use Rattle.flow_reading.specs.Printed.{link_text}
use Rattle.flow_reading.proofs.report.read_links.Given as goal

abbrev pub invariant-loop-links : goal.invariant-loop-links
invariant-loop-links l = l.fn.lines.rest.now ≡ flat_map link_text l.links.items ++ l.lines.rest.now

abbrev pub decreases-loop-links : goal.decreases-loop-links
decreases-loop-links l = length l.lines.rest.now
