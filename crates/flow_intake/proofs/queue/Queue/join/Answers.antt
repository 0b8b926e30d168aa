use Rattle.std.proofs.Common.{◌≡◌, ◌+◌, ◌<◌, length, refl, true, arith}
use Rattle.std.proofs.lemmas.List.{length-set}
use Rattle.flow_intake.proofs.EntriesStand.{standing-joined, placed-joined, numbered-joined}
use Rattle.flow_intake.proofs.queue.Queue.join.Goals as goal

pub trim-requires : goal.trim-requires
trim-requires c =
    let turns = c.self.inside.turns.items in
    let known : c.args.place < length turns = rw (← c.self.view_is) at c.requires.known in
    rw (c.deref.ensures.value, length-set turns c.args.place (c.self.inside.last + 1), c.push_back_reserved.ensures.items)
    (placed-joined (length turns) c.self.inside.entries.items (record { place = c.args.place; number = c.self.inside.last + 1 }) c.self.invariant.0 known)

pub invariant_of-self : goal.invariant_of-self
invariant_of-self c =
    let kept = c.self.invariant in
    let to = c.deref.ensures.value in
    let numbered = numbered-joined c.self.inside.last c.self.inside.entries.items (record { place = c.args.place; number = c.self.inside.last + 1 }) kept.1 refl in
    let room : c.self.inside.ready ≡ true = rw (← c.self.view_is) at c.requires.room in
    let capacity = rw room at kept.3 in
    let last = rw room at kept.4 in (
      rw (← to) c.trim.ensures.placed,
      c.trim.ensures.numbered (c.self.inside.last + 1) (rw c.push_back_reserved.ensures.items numbered),
      rw (← to) c.trim.ensures.front,
      omega (arith, capacity),
      omega (arith, last),
    )

pub returns : goal.returns
returns c =
    let turns = c.self.inside.turns.items in
    let entries = c.self.inside.entries.items in
    let known : c.args.place < length turns = rw (← c.self.view_is) at c.requires.known in
    let same = rw (c.deref.ensures.value, c.push_back_reserved.ensures.items) at c.trim.ensures.same in
    let joined = standing-joined turns c.args.place c.self.inside.last entries c.self.invariant.1 known in
    rw (← c.self.view_is, same, joined, length-set turns c.args.place (c.self.inside.last + 1)) refl
