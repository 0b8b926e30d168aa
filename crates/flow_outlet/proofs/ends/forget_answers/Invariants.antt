use Rattle.std.proofs.Common.{◌≡◌, ◌++◌, take, drop, map}
use Rattle.flow_outlet.specs.ByLink.{forgotten_for}
use Rattle.flow_outlet.proofs.ends.forget_answers.Given as goal

abbrev pub invariant-loop-place : goal.invariant-loop-place
invariant-loop-place l =
    l.ends.items ≡ map (forgotten_for l.id) (take l.place l.initial.ends.items) ++ drop l.place l.initial.ends.items
