use Rattle.std.proofs.Common.{◌≡◌, ◌++◌, take, drop, map}
use Rattle.flow_intake.specs.Calls.{port_closes}
use Rattle.flow_block.proofs.ports.close_ports.Given as goal

abbrev pub invariant-loop-place : goal.invariant-loop-place
invariant-loop-place l =
    l.ports.items ≡ map port_closes (take l.place l.initial.ports.items) ++ drop l.place l.initial.ports.items
