use Rattle.std.proofs.Common.{◌≡◌, ◌+◌, drop}
use Rattle.flow_spread.specs.End.{count_of, owes_it}
use Rattle.flow_spread.proofs.ends.owing_in.Given as goal

abbrev pub invariant-loop-place : goal.invariant-loop-place
invariant-loop-place l = l.owing + count_of owes_it (drop l.place l.ends) ≡ count_of owes_it l.ends
