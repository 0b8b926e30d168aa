use Rattle.std.proofs.Common.{◌≤◌}
use Rattle.flow_crew.specs.Runs.{RunsOn}
use Rattle.flow_pace.proofs.short.settle_while_short.Given as goal

-- so many events may be done yet, and the network has gone on by the others
abbrev pub invariant-loop-left : goal.invariant-loop-left
invariant-loop-left g l = (l.left ≤ l.limit) × RunsOn l.initial.net l.net

abbrev pub decreases-loop-left : goal.decreases-loop-left
decreases-loop-left g l = l.left
