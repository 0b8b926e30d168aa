use Rattle.std.proofs.Common.{◌≡◌, ℕ, ◌<◌, ◌++◌, ◌∷◌, [], List, length, slice_index_or, sym, ap, ◌∙◌, arith, append-nil, length-append}
use Rattle.std.specs.Vec.Iter.{into_iter_items}
use Rattle.std.proofs.lemmas.List.{nil_from_length}
use Rattle.std.proofs.Math.Seq.{get_or-append_seam}
use Rattle.flow_wire.specs.Ends.{TargetOf}
use Rattle.flow_link.specs.Planned.{layout_of}
use Rattle.flow_link.proofs.PortsAreFew.{few_links}
use Rattle.flow_task.specs.Dealt.{exits_dealt, ins_dealt}
use Rattle.flow_task.specs.Known.{in_known}
use Rattle.flow_task.proofs.Places.{at_place, count_is}
use Rattle.flow_task.proofs.targets.Targets.deal.Goals as goal

pub put-requires : goal.put-requires
put-requires g c κs within =
    let i = c.loop-end.invariant in
    let ends = c.args.ends.items in
    let end = c.in-Some.end in
    let rest = into_iter_items c.next.new.self in
    let count = length (layout_of c.args.plan.now).links in
    let all = i.0 ∙ ap (λ (left : List TargetOf). c.loop-end.yielded ++ left) c.in-Some.ensures.steps.0 in
    let many = count_is in_known g.say count ends c.requires.1.0 in
    let low : c.loop-end.id < count = omega (arith, i.1.0, many, ap length all, length-append c.loop-end.yielded (end ∷ rest)) in
    let here : slice_index_or ends c.loop-end.id end ≡ end =
    ap (λ (n : ℕ). slice_index_or ends n end) i.1.0
    ∙ ap (λ (xs : List TargetOf). slice_index_or xs (length c.loop-end.yielded) end) all
    ∙ get_or-append_seam c.loop-end.yielded end rest end in
    let known = sym (ap in_known here) ∙ at_place in_known g.say count ends c.loop-end.id end c.requires.1.0 low in
    (within, (low, (known, i.1.1)))

pub overflow_add-id : goal.overflow_add-id
overflow_add-id g c =
    let i = c.loop-end.invariant in
    let plan = c.args.plan.now in
    let few = few_links plan.blocks.items plan.links.items plan.well_formed plan.laid_out in
    let many = count_is in_known g.say (length (layout_of plan).links) c.args.ends.items c.requires.1.0 in
    let all = i.0 ∙ ap (λ (left : List TargetOf). c.loop-end.yielded ++ left) c.in-Some.ensures.steps.0 in
    omega (arith, i.1.0, many, ap length all, length-append c.loop-end.yielded (c.in-Some.end ∷ into_iter_items c.next.new.self), few)

pub returns-clause-ins : goal.returns-clause-ins
returns-clause-ins g c =
    let i = c.loop-end.invariant in
    let left : into_iter_items c.loop-end.end-iterator ≡ [] =
    nil_from_length _ (sym c.loop-end.end-iterator.rest.ok.0 ∙ c.in-None.ensures.steps.0) in
    let all = i.0 ∙ ap (λ (rest : List TargetOf). c.loop-end.yielded ++ rest) left ∙ append-nil c.loop-end.yielded in
    let many = count_is in_known g.say (length (layout_of c.args.plan.now).links) c.args.ends.items c.requires.1.0 in
    i.1.1.0 ∙ ap (λ (n : ℕ). ins_dealt (layout_of c.args.plan.now) g.say n) (i.1.0 ∙ ap length (sym all) ∙ many)

pub returns-clause-exits : goal.returns-clause-exits
returns-clause-exits g c =
    let i = c.loop-end.invariant in
    let left : into_iter_items c.loop-end.end-iterator ≡ [] =
    nil_from_length _ (sym c.loop-end.end-iterator.rest.ok.0 ∙ c.in-None.ensures.steps.0) in
    let all = i.0 ∙ ap (λ (rest : List TargetOf). c.loop-end.yielded ++ rest) left ∙ append-nil c.loop-end.yielded in
    let many = count_is in_known g.say (length (layout_of c.args.plan.now).links) c.args.ends.items c.requires.1.0 in
    i.1.1.1.0 ∙ ap (λ (n : ℕ). exits_dealt (layout_of c.args.plan.now) g.say n) (i.1.0 ∙ ap length (sym all) ∙ many)
