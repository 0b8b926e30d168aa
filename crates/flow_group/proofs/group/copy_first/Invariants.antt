use Rattle.std.proofs.Common.{◌≡◌, take}
use Rattle.flow_group.proofs.group.copy_first.Given as goal

abbrev pub invariant-loop-place : goal.invariant-loop-place
invariant-loop-place l = l.values.items ≡ take l.place l.waiting.items
