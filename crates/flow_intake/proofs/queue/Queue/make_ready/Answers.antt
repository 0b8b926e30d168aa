use Rattle.std.proofs.Common.{arith}
use Rattle.flow_intake.proofs.queue.Queue.make_ready.Goals as goal

pub invariant_of-self : goal.invariant_of-self
invariant_of-self c =
    let kept = c.self.invariant in
    let here = c.deref.ensures.value in
    rw (c.reserve.ensures.items, ← here)
    (c.drop_stale.ensures.placed, c.drop_stale.ensures.numbered c.self.inside.last kept.1, c.drop_stale.ensures.front, omega (arith, kept.3), kept.4)

pub invariant_of-self-2 : goal.invariant_of-self-2
invariant_of-self-2 c =
    let kept = c.self.invariant in
    let here = c.deref.ensures.value in
    rw (c.reserve.ensures.items, ← here)
    (c.drop_stale.ensures.placed, c.drop_stale.ensures.numbered c.self.inside.last kept.1, c.drop_stale.ensures.front, omega (arith, c.in_ok-reserve.ensures.ok), grind (arith, kept.4, c.if-self.false))
