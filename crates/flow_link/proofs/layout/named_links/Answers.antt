use Rattle.std.proofs.Common.{arith}
use Rattle.flow_link.proofs.LinksLaidOut.{pushes_named}
use Rattle.flow_link.proofs.layout.named_links.Goals as goal

pub named_link-requires : goal.named_link-requires
named_link-requires g c = c.requires c.loop-link.link-index c.link-item.result (omega arith) c.link-item.is

pub loop-link-preserved : goal.loop-link-preserved
loop-link-preserved g c =
    pushes_named c.args.blocks.now c.args.links.now c.loop-link.link-index c.link-item.result c.loop-link.named.items c.push.new.self.items
    c.named_link.result (omega arith) c.in_ok-push.ensures.items c.loop-link.invariant c.link-item.is c.named_link.ensures
