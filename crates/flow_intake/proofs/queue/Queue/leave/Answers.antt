use Rattle.std.proofs.Common.{◌<◌, length, refl, arith}
use Rattle.std.proofs.lemmas.List.{length-set}
use Rattle.flow_intake.proofs.EntriesStand.{standing-left}
use Rattle.flow_intake.proofs.queue.Queue.leave.Goals as goal

pub invariant_of-self : goal.invariant_of-self
invariant_of-self c =
    let kept = c.self.invariant in
    let to = c.deref.ensures.value in
    (rw (← to) c.trim.ensures.placed, c.trim.ensures.numbered c.self.inside.last kept.1, rw (← to) c.trim.ensures.front, omega (arith, kept.3), kept.4)

pub returns : goal.returns
returns c =
    let turns = c.self.inside.turns.items in
    let entries = c.self.inside.entries.items in
    let known : c.args.place < length turns = rw (← c.self.view_is) at c.requires in
    let same = rw c.deref.ensures.value at c.trim.ensures.same in
    let left = standing-left turns c.args.place c.self.inside.last entries c.self.invariant.1 known in
    rw (← c.self.view_is, same, left, length-set turns c.args.place 0) refl
