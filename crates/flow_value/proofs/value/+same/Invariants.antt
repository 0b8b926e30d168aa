use Rattle.std.proofs.Common.{◌≡◌, length, take}
use Rattle.flow_value.proofs.value.+same.Given as goal

abbrev pub invariant-Row::is_same-loop-at : goal.invariant-Row::is_same-loop-at
invariant-Row::is_same-loop-at l = record {
  same_length : length l.item-items ≡ length l.other-inside.items.value.items;
  same_so_far : take l.at l.item-items ≡ take l.at l.other-inside.items.value.items;
}
