use Rattle.flow_exec.proofs.CallsRun.{settle_runs}
use Rattle.flow_exec.proofs.traits.ExecutionCompleting.completion.Goals as goal

pub invariant_of-self : goal.invariant_of-self
invariant_of-self g c = settle_runs c.self.inside.block c.completion.new.self c.completion.ensures.learns c.self.invariant
