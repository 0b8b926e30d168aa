use Rattle.std.proofs.Common.{◌≡◌, ◌+◌, [], ◌∷◌, length, refl, arith, length-append, max}
use Rattle.flow_intake.proofs.EntriesStand.{standing-added, placed-added, first-added}
use Rattle.flow_intake.proofs.queue.Queue.know.Goals as goal

pub invariant_of-self : goal.invariant_of-self
invariant_of-self c =
    let turns = c.self.inside.turns.items in
    let entries = c.self.inside.entries.items in
    let kept = c.self.invariant in
    rw (c.in_ok-push.ensures.items, length-append turns (0 ∷ []))
    (placed-added (length turns) entries kept.0, kept.1, first-added turns entries kept.0 kept.2, kept.3, kept.4)

pub returns-in_ok-push-clause-known : goal.returns-in_ok-push-clause-known
returns-in_ok-push-clause-known c =
    let turns = c.self.inside.turns.items in
    let place : c.args.place ≡ length turns = omega arith in
    let more : max (length turns) (c.args.place + 1) ≡ length turns + 1 = omega arith in
    rw (
      c.in_ok-push.ensures.items,
      ← c.self.view_is,
      standing-added turns c.self.inside.entries.items c.self.invariant.0,
      length-append turns (0 ∷ []),
      more,
    ) refl
