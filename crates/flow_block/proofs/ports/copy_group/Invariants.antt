use Rattle.std.proofs.Common.{◌≡◌, take}
use Rattle.flow_block.proofs.ports.copy_group.Given as goal

abbrev pub invariant-loop-place : goal.invariant-loop-place
invariant-loop-place l = l.values.items ≡ take l.place l.initial.waiting.items
