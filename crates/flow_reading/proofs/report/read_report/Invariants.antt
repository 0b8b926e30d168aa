use Rattle.std.proofs.Common.{◌≡◌, ◌++◌, length}
use Rattle.std.specs.List.{flat_map}
use Rattle.flow_reading.specs.Printed.{block_text}
use Rattle.flow_reading.proofs.report.read_report.Given as goal

abbrev pub invariant-loop-title : goal.invariant-loop-title
invariant-loop-title l = l.text ≡ flat_map block_text l.blocks.items ++ l.lines.rest.now

abbrev pub decreases-loop-title : goal.decreases-loop-title
decreases-loop-title l = length l.lines.rest.now
