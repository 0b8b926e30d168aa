use Rattle.std.proofs.Common.{◌≡◌, ◌≤◌}
use Rattle.std.specs.VecDeque.{deque_len}
use Rattle.flow_crew.proofs.worker.Worker.turn_once.Given as goal

abbrev pub invariant-loop-k : goal.invariant-loop-k
invariant-loop-k g l = record {
  pass : l.self.pass ≡ l.initial.self.pass;
  held : l.self.held.items ≡ l.initial.self.held.items;
  count : deque_len l.self.held ≡ deque_len l.initial.self.held;
  within : l.done.events ≤ l.budget;
}
