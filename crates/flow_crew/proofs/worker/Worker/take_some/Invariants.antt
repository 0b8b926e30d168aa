use Rattle.std.proofs.Common.{◌≡◌}
use Rattle.crossbeam_queue.specs.Passes.{view, IsPassOf}
use Rattle.flow_crew.proofs.worker.Worker.take_some.Given as goal

abbrev pub invariant-loop : goal.invariant-loop
invariant-loop g l = record {
  queue : IsPassOf l.queue l.self.pass;
  part : (view l.self.pass).parts ≡ (view l.initial.self.pass).parts;
}
