use Rattle.std.proofs.Common.{◌≡◌, ◌++◌, take, drop, map}
use Rattle.flow_intake.specs.Calls.{gives_room}
use Rattle.flow_block.proofs.ports.give_room.Given as goal

abbrev pub invariant-loop-place : goal.invariant-loop-place
invariant-loop-place l =
    l.ports.items ≡ map (gives_room l.room) (take l.place l.initial.ports.items) ++ drop l.place l.initial.ports.items
