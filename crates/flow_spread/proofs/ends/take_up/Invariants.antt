use Rattle.std.proofs.Common.{◌≡◌, ◌++◌, take, drop, map}
use Rattle.flow_spread.specs.End.{takes_up}
use Rattle.flow_spread.proofs.ends.take_up.Given as goal

abbrev pub invariant-loop-place : goal.invariant-loop-place
invariant-loop-place l =
    l.ends.items ≡ map (takes_up l.value) (take l.place l.initial.ends.items) ++ drop l.place l.initial.ends.items
