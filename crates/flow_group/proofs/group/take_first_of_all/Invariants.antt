use Rattle.std.proofs.Common.{◌≡◌, ◌++◌, take, drop}
use Rattle.flow_group.specs.Group.{takes_from}
use Rattle.flow_group.proofs.group.take_first_of_all.Given as goal

abbrev pub invariant-loop-place : goal.invariant-loop-place
invariant-loop-place l =
    takes_from 0 (take l.size l.arrivals.ports) l.initial.ports
    ≡ take l.place l.ports ++ takes_from l.place (take l.size l.arrivals.ports) (drop l.place l.ports)
