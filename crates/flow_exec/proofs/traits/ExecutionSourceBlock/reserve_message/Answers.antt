use Rattle.flow_exec.proofs.CallsRun.{keep_runs}
use Rattle.flow_exec.proofs.traits.ExecutionSourceBlock.reserve_message.Goals as goal

pub invariant_of-self : goal.invariant_of-self
invariant_of-self g c =
    keep_runs c.args.link c.args.header c.self.inside.block c.reserve_message.new.self c.reserve_message.ensures.gives.1
    c.self.invariant
