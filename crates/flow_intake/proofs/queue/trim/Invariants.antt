use Rattle.std.proofs.Common.{◌≡◌, ℕ, ◌≤◌, length}
use Rattle.std.specs.VecDeque.{deque_len, deque_capacity}
use Rattle.flow_intake.specs.Queue.{standing, ArePlaced, AreNumbered}
use Rattle.flow_intake.proofs.queue.trim.Given as goal

abbrev pub invariant-loop-entry : goal.invariant-loop-entry
invariant-loop-entry l = record {
  same : standing l.turns l.entries.items ≡ standing l.turns l.initial.entries.items;
  placed : ArePlaced (length l.turns) l.entries.items;
  numbered : (last : ℕ) → AreNumbered last l.initial.entries.items → AreNumbered last l.entries.items;
  fewer : deque_len l.entries ≤ deque_len l.initial.entries;
  capacity : deque_capacity l.entries ≡ deque_capacity l.initial.entries;
}

abbrev pub decreases-loop-entry : goal.decreases-loop-entry
decreases-loop-entry l = deque_len l.entries
