use Rattle.std.proofs.Common.{◌≡◌, ap, sym, ◌∙◌, arith}
use Rattle.flow_link.specs.declared.plan.Link.{Link}
use Rattle.flow_link.specs.Plan.{no_link}
use Rattle.flow_link.specs.Planned.{layout_of}
use Rattle.flow_block.specs.Planned.{is_exit, leads_out}
use Rattle.flow_block.proofs.PlanMade.{counted_where, counted_else}
use Rattle.flow_block.proofs.planned.exit_place.Goals as goal
use Rattle.flow_block.proofs.planned.exit_place.Goals.{then-is_exit, else-is_exit}

pub loop-earlier-preserved : goal.loop-earlier-preserved
loop-earlier-preserved g c =
    let layout = layout_of c.args.plan.now in
    let place = c.loop-earlier.place in
    let earlier = c.loop-earlier.earlier in
    let so_far = c.loop-earlier.invariant.counted in
    let here : leads_out layout earlier ≡ c.is_exit.result =
    sym (c.is_exit.ensures ∙ ap (λ (link : Link). is_exit link.target) (c.link.ensures.its_number no_link)) in
    elim c.if-is_exit.branch [
      | then-is_exit w ↦ record {
        counted = w.place-is ∙ counted_where (leads_out layout) earlier place so_far (here ∙ w.if-is_exit.true);
        few = omega (arith, w.place-is);
      }
      | else-is_exit w ↦ record {
        counted = w.place-is ∙ counted_else (leads_out layout) earlier place so_far (here ∙ w.if-is_exit.false);
        few = omega (arith, w.place-is);
      }
    ]
