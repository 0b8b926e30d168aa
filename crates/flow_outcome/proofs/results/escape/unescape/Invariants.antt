use Rattle.std.proofs.Common.{length}
use Rattle.flow_outcome.proofs.results.escape.unescape.Given as goal

abbrev pub decreases-loop-plain : goal.decreases-loop-plain
decreases-loop-plain l = length l.rest
