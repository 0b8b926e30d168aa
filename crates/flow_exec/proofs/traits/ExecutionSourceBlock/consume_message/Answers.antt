use Rattle.flow_exec.proofs.CallsRun.{give_runs}
use Rattle.flow_exec.proofs.traits.ExecutionSourceBlock.consume_message.Goals as goal

pub invariant_of-self : goal.invariant_of-self
invariant_of-self g c =
    give_runs c.args.link c.args.header c.self.inside.block c.consume_message.new.self c.consume_message.ensures.gives.1
    c.self.invariant
