use Rattle.std.proofs.Common.{◌-◌, ◌≤◌}
use Rattle.flow_crew.specs.Runs.{RunsOn}
use Rattle.flow_pace.proofs.hand_over.finish.Given as goal

-- so many events are done, and the network has gone on by them
abbrev pub invariant-loop-done : goal.invariant-loop-done
invariant-loop-done g l = (l.done ≤ l.limit) × RunsOn l.initial.net l.net

abbrev pub decreases-loop-done : goal.decreases-loop-done
decreases-loop-done g l = l.limit - l.done
