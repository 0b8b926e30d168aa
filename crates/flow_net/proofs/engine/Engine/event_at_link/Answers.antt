use Rattle.flow_net.proofs.FindersTell.{source_there, target_there, source_found, target_found, lacking_needs}
use Rattle.flow_net.proofs.engine.Engine.event_at_link.Goals as goal

pub lacks_id-requires : goal.lacks_id-requires
lacks_id-requires g c =
    source_there g.W.Runs.meaning c.args.self.now.plan c.args.self.now.parts c.requires.kept c.args.id
    c.requires.known c.route-route.result.now c.route-route.ensures

pub returns-then-lacks_id-clause-needed : goal.returns-then-lacks_id-clause-needed
returns-then-lacks_id-clause-needed g c =
    lacking_needs g.W.Runs.meaning c.args.self.now.plan c.args.self.now.parts c.requires.kept c.args.id
    c.requires.known c.route-route.result.now c.route-route.ensures
    c.lacks_id.result c.lacks_id.ensures c.if-lacks_id.true

pub next_of_source-requires : goal.next_of_source-requires
next_of_source-requires g c =
    source_there g.W.Runs.meaning c.args.self.now.plan c.args.self.now.parts c.requires.kept c.args.id
    c.requires.known c.route-route.result.now c.route-route.ensures

pub returns-in-Some-clause-due : goal.returns-in-Some-clause-due
returns-in-Some-clause-due g c =
    source_found g.W.Runs.meaning c.args.self.now.plan c.args.self.now.parts c.requires.kept c.args.id
    c.requires.known c.route-route.result.now c.route-route.ensures
    c.lacks_id.result c.lacks_id.ensures c.if-lacks_id.false c.next_of_source.result c.next_of_source.ensures.next
    c.in-Some.next c.in-Some.is

pub next_of_target-requires : goal.next_of_target-requires
next_of_target-requires g c =
    target_there g.W.Runs.meaning c.args.self.now.plan c.args.self.now.parts c.requires.kept c.args.id
    c.requires.known c.route-route.result.now c.route-route.ensures

pub returns-in-Some-next_of_target-clause-due : goal.returns-in-Some-next_of_target-clause-due
returns-in-Some-next_of_target-clause-due g c =
    target_found g.W.Runs.meaning c.args.self.now.plan c.args.self.now.parts c.requires.kept c.args.id
    c.requires.known c.route-route.result.now c.route-route.ensures
    c.next_of_target.result c.next_of_target.ensures c.in-Some-next_of_target.next c.in-Some-next_of_target.is
