use Rattle.std.proofs.Common.{◌≡◌, ◌≤◌}
use Rattle.crossbeam_queue.specs.Passes.{view, IsPassOf}
use Rattle.flow_crew.proofs.crew.work.Given as goal

abbrev pub invariant-loop : goal.invariant-loop
invariant-loop g l = record {
  queue : IsPassOf l.queue l.worker.pass;
  part : (view l.worker.pass).parts ≡ (view l.fn.pass).parts;
  within : l.events ≤ l.share.budget;
}
