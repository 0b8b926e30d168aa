use Rattle.std.proofs.Common.{◌≤◌, ◌-◌, length}
use Rattle.flow_reading.proofs.list.row_len.Given as goal

abbrev pub invariant-loop-token : goal.invariant-loop-token
invariant-loop-token l = l.read ≤ length l.text

abbrev pub decreases-loop-token : goal.decreases-loop-token
decreases-loop-token l = length l.text - l.read
