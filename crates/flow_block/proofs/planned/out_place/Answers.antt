use Rattle.std.proofs.Common.{◌≡◌, ap, sym, ◌∙◌, arith}
use Rattle.flow_link.specs.declared.plan.Link.{Link}
use Rattle.flow_link.specs.Plan.{begins_at, no_link}
use Rattle.flow_link.specs.Planned.{layout_of}
use Rattle.flow_block.specs.Planned.{is_out_of}
use Rattle.flow_block.proofs.PlanMade.{counted_where, counted_else}
use Rattle.flow_block.proofs.planned.out_place.Goals as goal
use Rattle.flow_block.proofs.planned.out_place.Goals.{then-leaves, else-leaves}

pub loop-earlier-preserved : goal.loop-earlier-preserved
loop-earlier-preserved g c =
    let layout = layout_of c.args.plan.now in
    let place = c.loop-earlier.place in
    let earlier = c.loop-earlier.earlier in
    let so_far = c.loop-earlier.invariant.counted in
    let here : is_out_of layout c.args.block earlier ≡ c.leaves.result =
    sym (c.leaves.ensures
    ∙ ap (λ (link : Link). begins_at c.args.block link.source) (c.link.ensures.its_number no_link)) in
    elim c.if-leaves.branch [
      | then-leaves w ↦ record {
        counted = w.place-is
            ∙ counted_where (is_out_of layout c.args.block) earlier place so_far (here ∙ w.if-leaves.true);
        few = omega (arith, w.place-is);
      }
      | else-leaves w ↦ record {
        counted = w.place-is
            ∙ counted_else (is_out_of layout c.args.block) earlier place so_far (here ∙ w.if-leaves.false);
        few = omega (arith, w.place-is);
      }
    ]
