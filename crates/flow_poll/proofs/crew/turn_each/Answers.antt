use Rattle.std.proofs.Common.{rules, refl}
use Rattle.flow_poll.specs.declared.actor.TurnState.TheVariants.{Ended}
use Rattle.flow_poll.specs.Turns.{TakesTurn}
use Rattle.flow_poll.proofs.EachGoes.{each_set, each_stays, goes_further, goes_nowhere}
use Rattle.flow_poll.proofs.RoundGoes.{half_further, half_stops, half_whole}
use Rattle.flow_poll.proofs.crew.turn_each.Goals as goal

pub loop-place-init : goal.loop-place-init
loop-place-init g c = ((refl, refl), each_stays _ (goes_nowhere _ _ g.met.A.Actor.goes_further g.met.A.Actor.stays) _)

pub returns-in_err-turned-clause-round : goal.returns-in_err-turned-clause-round
returns-in_err-turned-clause-round g c =
    half_stops _ c.loop-place.place _ _ _ _ c.index_mut.result.now _ _ _ (search rules) (search rules)
    c.loop-place.invariant.0 c.in_err-turned.ensures.turns (search rules)

pub returns-in_err-turned-clause-further : goal.returns-in_err-turned-clause-further
returns-in_err-turned-clause-further g c =
    each_set _ (goes_further _ _ g.met.A.Actor.goes_further g.met.A.Actor.stays) _ _ c.loop-place.place c.index_mut.result.now _
    (search rules) (search rules) c.loop-place.invariant.1 c.turn_once.ensures.further

pub loop-place-preserved : goal.loop-place-preserved
loop-place-preserved g c = (
  half_further (TakesTurn g.A.Actor.acts c.args.budget) c.loop-place.place Ended c.loop-place.state _ c.args.actors.now.items c.loop-place.actors.items
      c.index_mut.result.now c.turn_once.new.actor c.in_ok-turned.turned (search rules) (search rules)
      c.loop-place.invariant.0 c.in_ok-turned.ensures.turns c.joint-state.ensures,
  each_set _ (goes_further _ _ g.met.A.Actor.goes_further g.met.A.Actor.stays) _ _ c.loop-place.place c.index_mut.result.now _
      (search rules) (search rules) c.loop-place.invariant.1 c.turn_once.ensures.further,
)

pub returns-clause-round : goal.returns-clause-round
returns-clause-round g c = half_whole _ c.loop-place.place _ _ _ _ (search rules) c.loop-place.invariant.0
