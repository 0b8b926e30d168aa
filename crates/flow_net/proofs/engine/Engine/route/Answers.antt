use Rattle.std.proofs.Common.{rules}
use Rattle.flow_link.specs.Planned.{layout_of}
use Rattle.flow_net.proofs.FindersTell.{route_there, route_at}
use Rattle.flow_net.proofs.engine.Engine.route.Goals as goal

pub index-requires : goal.index-requires
index-requires g c =
    let there = route_there (layout_of c.args.self.now.plan) c.args.self.now.routes.items c.args.self.now.routed c.args.id c.requires in
    search rules

pub returns : goal.returns
returns g c =
    let at = route_at (layout_of c.args.self.now.plan) c.args.self.now.routes.items c.args.self.now.routed c.args.id c.requires in
    search rules
