use Rattle.std.proofs.Common.{◌<◌, ◌∙◌, arith}
use Rattle.flow_link.specs.Planned.{layout_of}
use Rattle.flow_block.specs.Routes.{route_of}
use Rattle.flow_block.proofs.PlanMade.{mapped_at, mapped_more}
use Rattle.flow_block.proofs.planned.routes_of.Goals as goal

pub loop-id-preserved : goal.loop-id-preserved
loop-id-preserved g c =
    c.in_ok-push.ensures.items
    ∙ mapped_more (route_of (layout_of c.args.plan.now)) c.loop-id.routes.items c.loop-id.id c.route_of.result
    c.loop-id.invariant c.route_of.ensures

pub returns-clause-each : goal.returns-clause-each
returns-clause-each g c = λ l small d.
    let near : l < c.loop-id.id = omega (arith, c.loop-id-test.false, c.link_count-id-end.ensures, small) in
    mapped_at (route_of (layout_of c.args.plan.now)) c.loop-id.routes.items c.loop-id.id l d c.loop-id.invariant near
