use Rattle.std.proofs.Common.{◌≡◌, length}
use Rattle.flow_split.proofs.lists.sort_entries.Given as goal

abbrev pub invariant-loop-entry : goal.invariant-loop-entry
invariant-loop-entry l = length l.lists.items ≡ l.count
