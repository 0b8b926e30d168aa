use Rattle.crossbeam_queue.specs.Passes.{view}
use Rattle.flow_crew.proofs.Keeps.{takes}
use Rattle.flow_crew.proofs.worker.Worker.take.Goals as goal

pub try_pop_as-requires-clause-rule : goal.try_pop_as-requires-clause-rule
try_pop_as-requires-clause-rule g c = let pass = c.args.self.now.pass in takes g.J.Round.all pass.id (view pass) c.requires.part
