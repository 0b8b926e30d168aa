use Rattle.std.proofs.Common.{sym}
use Rattle.flow_block.proofs.SourceMoves.{head_offered, copy_offered}
use Rattle.flow_block.proofs.traits.BlockSourceBlock.next_offer.Goals as goal

pub returns-then-shares-clause-moves : goal.returns-then-shares-clause-moves
returns-then-shares-clause-moves c =
    head_offered c.args.self.now (sym c.if-shares.ensures) c.offer_head.result c.offer_head.new.self c.offer_head.ensures.named c.offer_head.ensures.done

pub returns-else-shares-clause-moves : goal.returns-else-shares-clause-moves
returns-else-shares-clause-moves c =
    copy_offered c.args.self.now (sym c.if-shares.ensures) c.offer_next_copy.result c.offer_next_copy.new.self c.offer_next_copy.ensures.named
    c.offer_next_copy.ensures.done
