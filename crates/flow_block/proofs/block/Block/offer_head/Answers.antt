use Rattle.flow_block.proofs.TakesTell.{none_offered, head_offered}
use Rattle.flow_block.proofs.block.Block.offer_head.Goals as goal

pub returns-then-not-carries_next : goal.returns-then-not-carries_next
returns-then-not-carries_next c =
    let none = none_offered c.self.view_is c.carries_next.result c.carries_next.ensures c.if-not-carries_next.true in
    record { named = none.named; done = none.done; kept = tt }

pub returns-clause-named : goal.returns-clause-named
returns-clause-named c =
    (head_offered c.self.view_is c.carries_next.result c.carries_next.ensures c.if-not-carries_next.false c.in_ok-offer.ensures.named
    c.in_ok-offer.ensures.out).named

pub returns-clause-done : goal.returns-clause-done
returns-clause-done c =
    (head_offered c.self.view_is c.carries_next.result c.carries_next.ensures c.if-not-carries_next.false c.in_ok-offer.ensures.named
    c.in_ok-offer.ensures.out).done
