use Rattle.std.proofs.Common.{◌≡◌, ◌<◌, length, ap, sym, ◌∙◌, arith}
use Rattle.flow_link.specs.declared.plan.Link.{Link}
use Rattle.flow_link.specs.Plan.{ends_at, link_in, no_link}
use Rattle.flow_link.specs.Planned.{layout_of}
use Rattle.flow_block.proofs.PlanMade.{into_where, into_else}
use Rattle.flow_block.proofs.planned.links_into.Goals as goal
use Rattle.flow_block.proofs.planned.links_into.Goals.{then-ends_at, else-ends_at}

pub loop-id-preserved : goal.loop-id-preserved
loop-id-preserved g c =
    let links = (layout_of c.args.plan.now).links in
    let block = c.args.block in
    let id = c.loop-id.id in
    let count = c.loop-id.count in
    let so_far = c.loop-id.invariant.counted in
    let small : id < length links = omega (arith, c.loop-id-test.true, c.link_count-id-end.ensures) in
    let here : ends_at block (link_in links id).target ≡ c.ends_at.result =
    sym (c.ends_at.ensures ∙ ap (λ (link : Link). ends_at block link.target) (c.link.ensures.its_number no_link)) in
    elim c.if-ends_at.branch [
      | then-ends_at w ↦ record {
        counted = w.count-is
            ∙ into_where block links id no_link small count so_far (here ∙ w.if-ends_at.true);
        few = omega (arith, w.count-is);
      }
      | else-ends_at w ↦ record {
        counted = w.count-is
            ∙ into_else block links id no_link small count so_far (here ∙ w.if-ends_at.false);
        few = omega (arith, w.count-is);
      }
    ]
