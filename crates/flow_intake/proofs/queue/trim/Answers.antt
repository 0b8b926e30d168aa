use Rattle.std.proofs.Common.{◌∙◌, arith}
use Rattle.flow_intake.proofs.EntriesStand.{standing-popped, placed-popped, numbered-popped}
use Rattle.flow_intake.proofs.queue.trim.Goals as goal

pub loop-entry-preserved : goal.loop-entry-preserved
loop-entry-preserved c =
    let turns = c.args.turns.now in
    let entries = c.loop-entry.entries.items in
    let kept = c.loop-entry.invariant in
    let first = c.in-Some.ensures.lookup in
    record {
      same = rw c.pop_front.ensures.rest (standing-popped turns c.in-Some.entry.now entries first c.if-turns-entry.false ∙ kept.same);
      placed = rw c.pop_front.ensures.rest (placed-popped _ entries kept.placed);
      numbered = λ last old. rw c.pop_front.ensures.rest (numbered-popped last entries (kept.numbered last old));
      fewer = omega arith;
      capacity = c.pop_front.ensures.capacity ∙ kept.capacity;
    }
