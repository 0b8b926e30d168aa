use Rattle.std.proofs.Common.{◌≡◌, ◌++◌, map}
use Rattle.std.specs.Vec.Iter.{into_iter_items}
use Rattle.flow_lane.proofs.job_lanes.share.Given as goal

-- the first ends are shared, and the others are left
abbrev pub invariant-loop-end : goal.invariant-loop-end
invariant-loop-end g l =
    (l.fn.ends.items ≡ l.yielded ++ into_iter_items l.end-iterator)
    × (map (λ lane. lane.table) l.lanes.items ≡ map (λ end. end.table) l.yielded)
