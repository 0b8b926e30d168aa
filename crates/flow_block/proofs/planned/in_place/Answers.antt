use Rattle.std.proofs.Common.{◌≡◌, ap, sym, ◌∙◌, arith}
use Rattle.flow_link.specs.declared.plan.Link.{Link}
use Rattle.flow_link.specs.Plan.{ends_at_port, no_link}
use Rattle.flow_link.specs.Planned.{layout_of}
use Rattle.flow_block.specs.Planned.{is_into}
use Rattle.flow_block.proofs.PlanMade.{counted_where, counted_else}
use Rattle.flow_block.proofs.planned.in_place.Goals as goal
use Rattle.flow_block.proofs.planned.in_place.Goals.{then-enters, else-enters}

pub loop-earlier-preserved : goal.loop-earlier-preserved
loop-earlier-preserved g c =
    let layout = layout_of c.args.plan.now in
    let place = c.loop-earlier.place in
    let earlier = c.loop-earlier.earlier in
    let so_far = c.loop-earlier.invariant.counted in
    let here : is_into layout c.args.block c.args.port earlier ≡ c.enters.result =
    sym (c.enters.ensures
    ∙ ap (λ (link : Link). ends_at_port c.args.block c.args.port link.target) (c.link.ensures.its_number no_link)) in
    elim c.if-enters.branch [
      | then-enters w ↦ record {
        counted = w.place-is
            ∙ counted_where (is_into layout c.args.block c.args.port) earlier place so_far (here ∙ w.if-enters.true);
        few = omega (arith, w.place-is);
      }
      | else-enters w ↦ record {
        counted = w.place-is
            ∙ counted_else (is_into layout c.args.block c.args.port) earlier place so_far (here ∙ w.if-enters.false);
        few = omega (arith, w.place-is);
      }
    ]
