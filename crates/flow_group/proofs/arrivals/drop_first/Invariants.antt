use Rattle.std.proofs.Common.{◌≡◌, ◌≤◌, drop}
use Rattle.std.specs.VecDeque.{deque_len, deque_capacity}
use Rattle.flow_group.proofs.arrivals.drop_first.Given as goal

abbrev pub invariant-loop-taken : goal.invariant-loop-taken
invariant-loop-taken l =
    (l.ports.items ≡ drop l._taken l.initial.ports.items)
    × (deque_len l.ports ≤ deque_len l.initial.ports)
    × (deque_capacity l.ports ≡ deque_capacity l.initial.ports)
