use Rattle.std.proofs.Common.{◌≡◌, Some, sym, ◌∙◌}
use Rattle.flow_poll.proofs.DrivenFurther.{used_up, driven_further}
use Rattle.flow_poll.proofs.EachGoes.{goes_further, goes_nowhere}
use Rattle.flow_poll.proofs.running.RunningFuture.poll.Goals as goal

pub returns-then-self-eq0-clause-value : goal.returns-then-self-eq0-clause-value
returns-then-self-eq0-clause-value g c =
    let own : c.args.self.now.actor ≡ Some c.in-Some.actor = sym c.take.ensures.value ∙ c.in-Some.is in
    rw own (used_up _ _ _ c.if-self-eq0.true, goes_nowhere _ _ g.met.A.Actor.goes_further g.met.A.Actor.stays _)

pub returns-in-Ok-Moved-clause-same : goal.returns-in-Ok-Moved-clause-same
returns-in-Ok-Moved-clause-same g c =
    let own : c.args.self.now.actor ≡ Some c.in-Some.actor = sym c.take.ensures.value ∙ c.in-Some.is in
    rw (c.yield_now.ensures.pending, own) (λ x given. (
      driven_further _ _ _ _ _ _ c.if-self-eq0.false
          (rw c.in-Ok-Moved.field-0-is at c.in-Ok-Moved.ensures.turns) given.0,
      goes_further _ _ g.met.A.Actor.goes_further g.met.A.Actor.stays _ _ _ c.turn_once.ensures.further given.1,
    ))
