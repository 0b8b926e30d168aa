use Rattle.std.proofs.Common.{ap, refl}
use Rattle.flow_value.specs.declared.value.Value.{Value}
use Rattle.flow_open.specs.declared.sender.SenderState.TheVariants.{NotBegun}
use Rattle.flow_open.proofs.Sending.{sends_back, sends_begun, sends_end}
use Rattle.flow_open.proofs.senders.send_next.Goals as goal

pub returns-in-Ok-clause-sends : goal.returns-in-Ok-clause-sends
returns-in-Ok-clause-sends g c =
    sends_begun g.S.Iterator.next_gives _ _ _ _ c.in-Some.value _ _ c.requires.sending refl c.in-Some.ensures.steps refl c.in-Ok.ensures.begins

pub returns-in-Err-clause-sends : goal.returns-in-Err-clause-sends
returns-in-Err-clause-sends g c =
    sends_back g.S.Iterator.next_gives _ _ _ _ c.in-Some.value _ c.requires.sending
    (ap (λ (value : Value). NotBegun value c.in-Err.fault) c.in-Err.ensures.back)
    c.in-Some.ensures.steps c.requires.idle c.in-Err.ensures.kept

pub returns-in-Ok-finish-clause-sends : goal.returns-in-Ok-finish-clause-sends
returns-in-Ok-finish-clause-sends g c =
    sends_end g.S.Iterator.next_gives _ _ _ _ c.requires.sending refl c.in-None.ensures.steps c.requires.idle c.finish.ensures.same
    c.in-Ok-finish.ensures.finished c.in-Ok-finish.ensures.again
