use Rattle.flow_poll.proofs.WaitsFurther.{looked_further}
use Rattle.flow_poll.proofs.send_once.begin_once.Goals as goal

pub look_once-requires : goal.look_once-requires
look_once-requires g c = rw c.in-Ok.ensures.begins.new_is tt

pub returns-in-Ok-clause-ready : goal.returns-in-Ok-clause-ready
returns-in-Ok-clause-ready g c = looked_further _ _ _ _ _ _ c.in-Ok.ensures.begins c.look_once.ensures.ready
