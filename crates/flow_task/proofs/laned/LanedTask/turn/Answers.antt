use Rattle.flow_poll.specs.declared.actor.Turned.{Turned}
use Rattle.flow_task.proofs.LanedTurns.{rest_of_some}
use Rattle.flow_task.proofs.laned.LanedTask.turn.Goals as goal

pub returns-in-Some-clause-rests : goal.returns-in-Some-clause-rests
returns-in-Some-clause-rests g c =
    rest_of_some c.args.budget (λ (turned : Turned). turned.events) _ _ _ c.turn_with.result c.turn_with.ensures.rests
