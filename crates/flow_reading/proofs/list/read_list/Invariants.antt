use Rattle.std.proofs.Common.{length}
use Rattle.flow_reading.proofs.list.read_list.Given as goal

abbrev pub decreases-loop-token : goal.decreases-loop-token
decreases-loop-token l = length l.rest
