use Rattle.std.proofs.Common.{◌≡◌}
use Rattle.std.specs.VecDeque.{deque_len}
use Rattle.crossbeam_queue.specs.Passes.{view, IsPassOf}
use Rattle.flow_crew.proofs.worker.Worker.put_others.Given as goal

abbrev pub invariant-loop-self : goal.invariant-loop-self
invariant-loop-self g l = record {
  queue : IsPassOf l.queue l.self.pass;
  part : (view l.self.pass).parts ≡ (view l.initial.self.pass).parts;
}

abbrev pub decreases-loop-self : goal.decreases-loop-self
decreases-loop-self g l = deque_len l.self.held
