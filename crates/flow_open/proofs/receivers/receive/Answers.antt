use Rattle.flow_open.proofs.Taking.{takes_none, takes_one}
use Rattle.flow_open.proofs.receivers.receive.Goals as goal

pub returns-in-Ok-Message-clause-takes : goal.returns-in-Ok-Message-clause-takes
returns-in-Ok-Message-clause-takes g c =
    takes_one _ _ _ _ _ c.in-Ok-Message.value c.take.ensures (rw c.in-Ok-Message.field-0-is at c.in-Ok-Message.ensures.gives)

pub returns-in-Ok-Waiting-clause-takes : goal.returns-in-Ok-Waiting-clause-takes
returns-in-Ok-Waiting-clause-takes g c = takes_none _ _ _ _ (rw c.in-Ok-Waiting.field-0-is at c.in-Ok-Waiting.ensures.gives).0

pub returns-in-Ok-Ended-clause-takes : goal.returns-in-Ok-Ended-clause-takes
returns-in-Ok-Ended-clause-takes g c = takes_none _ _ _ _ (rw c.in-Ok-Ended.field-0-is at c.in-Ok-Ended.ensures.gives).0

pub returns-in-Err-clause-takes : goal.returns-in-Err-clause-takes
returns-in-Err-clause-takes g c = takes_none _ _ _ _ c.in-Err.ensures.kept
