use Rattle.std.proofs.Common.{◌≡◌, take}
use Rattle.flow_value.proofs.value.+copy.Given as goal

abbrev pub invariant-copies_of-loop-item : goal.invariant-copies_of-loop-item
invariant-copies_of-loop-item l = l.copies.items ≡ take l.item-index l.items
