use Rattle.std.proofs.Common.{◌≡◌, length, map}
use Rattle.flow_lane.specs.BlockLanes.{AreFree, tables_of}
use Rattle.flow_lane.proofs.job_lanes.make.Given as goal

abbrev pub invariant-loop : goal.invariant-loop
invariant-loop g l =
    AreFree l.made.sides.items
    × ((length l.made.ends.items ≡ l.counter)
    × ((tables_of l.made.sides.items ≡ l.made.tables.items)
    × (map (λ end. end.table) l.made.ends.items ≡ l.made.tables.items)))
