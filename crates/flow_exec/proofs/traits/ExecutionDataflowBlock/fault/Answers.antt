use Rattle.flow_exec.proofs.CallsRun.{fault_runs}
use Rattle.flow_exec.proofs.traits.ExecutionDataflowBlock.fault.Goals as goal

pub invariant_of-self : goal.invariant_of-self
invariant_of-self g c =
    fault_runs c.args.number c.self.inside.block c.fault.new.self c.fault.ensures.acts c.self.invariant
