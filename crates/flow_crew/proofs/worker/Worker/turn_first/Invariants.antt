use Rattle.std.proofs.Common.{◌≡◌, ◌≤◌}
use Rattle.std.specs.VecDeque.{deque_len}
use Rattle.flow_crew.proofs.worker.Worker.turn_first.Given as goal

abbrev pub invariant-loop : goal.invariant-loop
invariant-loop g l = record {
  pass : l.self.pass ≡ l.initial.self.pass;
  held : deque_len l.self.held ≡ deque_len l.initial.self.held;
  within : l.done.events ≤ l.budget;
}
