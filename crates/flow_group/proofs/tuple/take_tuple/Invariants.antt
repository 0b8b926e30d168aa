use Rattle.std.proofs.Common.{◌≡◌, ◌++◌, take, drop, map}
use Rattle.flow_intake.specs.Calls.{takes_next}
use Rattle.flow_group.proofs.tuple.take_tuple.Given as goal

abbrev pub invariant-loop-place : goal.invariant-loop-place
invariant-loop-place l =
    l.ports ≡ map takes_next (take l.place l.initial.ports) ++ drop l.place l.initial.ports
