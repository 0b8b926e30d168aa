use Rattle.std.proofs.Common.{rules, ◌≡◌, ◌++◌, length, refl, ap, sym, ◌∙◌}
use Rattle.std.specs.Vec.Iter.{into_iter_items}
use Rattle.flow_lane.proofs.SharedLanes.{as_many, next_table}
use Rattle.flow_lane.proofs.job_lanes.share.Goals as goal

pub new-requires : goal.new-requires
new-requires g c =
    let i = c.loop-end.invariant in
    let all = i.0 ∙ ap (λ rest. c.loop-end.yielded ++ rest) c.in-Some.ensures.steps.0 in
    let here : c.len-place.result ≡ length c.loop-end.lanes.items = search rules in
    next_table (λ end. end.table) c.args.ends.items c.loop-end.yielded c.in-Some.end (into_iter_items c.next.new.self) _ c.len-place.result
    (c.requires ∙ sym (ap (λ tables. tables.items) c.in_ok-try_clone.ensures)) all
    (here ∙ as_many (λ lane. lane.table) (λ end. end.table) c.loop-end.lanes.items c.loop-end.yielded _ i.1 refl)
