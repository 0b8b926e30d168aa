use Rattle.std.proofs.Common.{◌≡◌, ◌+◌, drop}
use Rattle.flow_spread.specs.End.{first_open}
use Rattle.flow_spread.proofs.ends.first_open.Given as goal

abbrev pub invariant-loop-place : goal.invariant-loop-place
invariant-loop-place l =
    l.place + first_open l.id (drop l.place l.ends) ≡ l.fn.from + first_open l.id (drop l.fn.from l.ends)
