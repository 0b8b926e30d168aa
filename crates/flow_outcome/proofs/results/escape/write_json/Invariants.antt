use Rattle.std.proofs.Common.{length}
use Rattle.flow_outcome.proofs.results.escape.write_json.Given as goal

abbrev pub decreases-loop-plain : goal.decreases-loop-plain
decreases-loop-plain g l = length l.rest
