use Rattle.std.proofs.Common.{◌≡◌}
use Rattle.crossbeam_queue.specs.Passes.{view, IsPassOf}
use Rattle.flow_crew.proofs.worker.put_back.Given as goal

-- nothing was put yet
abbrev pub invariant-loop : goal.invariant-loop
invariant-loop g l = record {
  queue : IsPassOf l.queue l.pass;
  view : view l.pass ≡ view l.initial.pass;
  item : l.item ≡ l.fn.item;
}
