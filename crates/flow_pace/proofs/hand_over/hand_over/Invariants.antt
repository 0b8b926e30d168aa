use Rattle.std.proofs.Common.{◌≤◌}
use Rattle.flow_crew.specs.Runs.{RunsOn}
use Rattle.flow_pace.proofs.hand_over.hand_over.Given as goal

-- so many events are done over the links before this one, and the network has gone on by them
abbrev pub invariant-loop-id : goal.invariant-loop-id
invariant-loop-id g l = (l.done ≤ l.limit) × RunsOn l.initial.net l.net
