use Rattle.flow_poll.specs.declared.actor.TurnState.TheVariants.{Ended}
use Rattle.flow_poll.specs.Turns.{EachGoesOn, GoesFurther, TakesTurn}
use Rattle.flow_poll.proofs.RoundGoes.{IsHalf}
use Rattle.flow_poll.proofs.crew.turn_each.Given as goal

abbrev pub invariant-loop-place : goal.invariant-loop-place
invariant-loop-place g l = IsHalf (TakesTurn g.A.Actor.acts l.budget) l.place Ended l.state l.fn.actors.items l.actors.items
    × EachGoesOn (GoesFurther g.A.Actor.journal g.A.Actor.goes_on) l.fn.actors.items l.actors.items
