use Rattle.std.proofs.Common.{refl, sym, ◌∙◌}
use Rattle.flow_open.proofs.Sending.{sends_accepted, sends_declined, sends_none, sends_on, sends_returned, sends_same}
use Rattle.flow_open.proofs.senders.go_on.Goals as goal

pub returns-then-not-is_sending-clause-sends : goal.returns-then-not-is_sending-clause-sends
returns-then-not-is_sending-clause-sends g c = sends_none g.S.Iterator.next_gives _ _

pub returns-in-Accepted-clause-sends : goal.returns-in-Accepted-clause-sends
returns-in-Accepted-clause-sends g c =
    sends_accepted g.S.Iterator.next_gives _ _ _ (sym c.is_sending.ensures ∙ c.if-not-is_sending.false) c.in-Accepted.ensures.tells

pub returns-in-Waiting-clause-sends : goal.returns-in-Waiting-clause-sends
returns-in-Waiting-clause-sends g c =
    sends_same g.S.Iterator.next_gives _ _ _ (sym c.is_sending.ensures ∙ c.if-not-is_sending.false) c.in-Waiting.ensures.tells.1

pub returns-in-Declined-clause-sends : goal.returns-in-Declined-clause-sends
returns-in-Declined-clause-sends g c =
    sends_declined g.S.Iterator.next_gives _ _ _ _ c.in-Declined.value (sym c.is_sending.ensures ∙ c.if-not-is_sending.false) refl refl
    c.in-Declined.ensures.tells

pub returns-in-Permanently-clause-sends : goal.returns-in-Permanently-clause-sends
returns-in-Permanently-clause-sends g c =
    sends_returned g.S.Iterator.next_gives _ _ _ _ c.in-Permanently.value (sym c.is_sending.ensures ∙ c.if-not-is_sending.false) refl refl
    c.in-Permanently.ensures.tells

pub returns-in-Idle-clause-sends : goal.returns-in-Idle-clause-sends
returns-in-Idle-clause-sends g c =
    sends_on g.S.Iterator.next_gives _ _ _ _ _ _
    (sends_same g.S.Iterator.next_gives _ _ _ (sym c.is_sending.ensures ∙ c.if-not-is_sending.false) c.in-Idle.ensures.tells.1)
    c.send_next.ensures.sends
