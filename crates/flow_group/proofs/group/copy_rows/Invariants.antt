use Rattle.std.proofs.Common.{◌≡◌, ◌++◌, take, drop}
use Rattle.flow_group.specs.Group.{rows_from}
use Rattle.flow_group.proofs.group.copy_rows.Given as goal

abbrev pub invariant-loop-place : goal.invariant-loop-place
invariant-loop-place l =
    l.rows.items ++ rows_from l.place (take l.size l.arrivals.ports) (drop l.place l.ports)
    ≡ rows_from 0 (take l.size l.arrivals.ports) l.ports
