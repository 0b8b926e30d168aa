use Rattle.std.proofs.Common.{rules}
use Rattle.flow_link.specs.declared.phase.Move.TheVariants.{Offer}
use Rattle.flow_link.specs.Planned.{layout_of}
use Rattle.flow_exec.specs.Works.{works_of}
use Rattle.flow_net.proofs.FindersTell.{source_there, source_found}
use Rattle.flow_net.proofs.PassesCount.{due_is}
use Rattle.flow_net.proofs.engine.Engine.has_next_to_pass.Goals as goal

pub lacks_id-requires : goal.lacks_id-requires
lacks_id-requires g c =
    source_there g.W.Runs.meaning c.args.self.now.plan c.args.self.now.parts c.requires.kept c.args.id
    c.requires.known c.route-route.result.now c.route-route.ensures

pub next_of_source-requires : goal.next_of_source-requires
next_of_source-requires g c =
    source_there g.W.Runs.meaning c.args.self.now.plan c.args.self.now.parts c.requires.kept c.args.id
    c.requires.known c.route-route.result.now c.route-route.ensures

pub returns-clause-due : goal.returns-clause-due
returns-clause-due g c = λ passes.
    let net = c.args.self.now in
    let layout = layout_of net.plan in
    let found = source_found g.W.Runs.meaning net.plan net.parts c.requires.kept c.args.id c.requires.known c.route-route.result.now
    c.route-route.ensures c.lacks_id.result c.lacks_id.ensures c.if-lacks_id.false c.next_of_source.result
    c.next_of_source.ensures.next (Offer c.in-Some-Offer.field-0-0) (search rules) in
    due_is layout net.parts c.args.id (works_of g.W.Runs.meaning layout) c.in-Some-Offer.field-0-0 found
