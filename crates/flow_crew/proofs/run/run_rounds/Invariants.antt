use Rattle.std.proofs.Common.{◌≤◌}
use Rattle.flow_crew.specs.Runs.{RunsOn}
use Rattle.flow_crew.proofs.run.run_rounds.Given as goal

-- the network has gone on, and at most so many events may be done yet
abbrev pub invariant-loop-left : goal.invariant-loop-left
invariant-loop-left g l = (l.left ≤ l.limit) × RunsOn l.fn.net l.net

abbrev pub decreases-loop-left : goal.decreases-loop-left
decreases-loop-left g l = l.left
