use Rattle.flow_link.specs.Planned.{layout_of}
use Rattle.flow_net.proofs.BlocksTell.{id_as, no_link_may, told_as, too_high}
use Rattle.flow_net.proofs.engine.Engine.is_due.Goals as goal

pub returns-then-id-link_count-clause-told : goal.returns-then-id-link_count-clause-told
returns-then-id-link_count-clause-told g c =
    told_as (layout_of c.args.self.now.plan) c.args.self.now.parts c.in-Link.is c.is_next.ensures.told

pub returns-then-id-link_count-clause-id : goal.returns-then-id-link_count-clause-id
returns-then-id-link_count-clause-id g c = λ told. id_as g.W.Runs.meaning c.args.self.now c.in-Link.is (c.is_next.ensures.id told)

pub returns-else-id-link_count-clause-told : goal.returns-else-id-link_count-clause-told
returns-else-id-link_count-clause-told g c =
    let layout = layout_of c.args.self.now.plan in
    let net = c.args.self.now.parts in
    told_as layout net c.in-Link.is
    (no_link_may layout net c.in-Link.id c.in-Link.next c.link_count.ensures c.if-id-link_count.false)

pub returns-else-id-link_count-clause-id : goal.returns-else-id-link_count-clause-id
returns-else-id-link_count-clause-id g c = λ low. absurd (too_high c.in-Link.id c.link_count.result c.if-id-link_count.false low)
