use Rattle.std.proofs.Common.{◌≡◌, ◌≤◌, take}
use Rattle.flow_group.specs.Group.{came_at}
use Rattle.flow_group.proofs.arrivals.count_of.Given as goal

abbrev pub invariant-loop-place : goal.invariant-loop-place
invariant-loop-place l = (l.found ≡ came_at l.port (take l.place l.ports.items)) × (l.found ≤ l.place)
