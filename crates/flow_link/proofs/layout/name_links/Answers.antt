use Rattle.std.proofs.Common.{◌∙◌, arith}
use Rattle.std.proofs.lemmas.List.{take_more_set, length-set}
use Rattle.flow_link.proofs.LinksLaidOut.{pushes_named}
use Rattle.flow_link.proofs.layout.name_links.Goals as goal

pub named_link-requires : goal.named_link-requires
named_link-requires g c = c.requires.fit c.loop-place.place c.index-links-place.result (omega arith) c.index-links-place.is

pub loop-place-preserved : goal.loop-place-preserved
loop-place-preserved g c =
    let room = c.loop-place.room in
    let place = c.loop-place.place in
    record {
      same_length = length-set room place c.named_link.result ∙ c.loop-place.invariant.same_length;
      named = pushes_named c.args.blocks.now c.args.links.now place c.index-links-place.result _ _ c.named_link.result (omega arith)
          (take_more_set room place c.named_link.result (omega arith)) c.loop-place.invariant.named c.index-links-place.is c.named_link.ensures;
    }
