use Rattle.flow_exec.proofs.ExecutionRuns.{returned_runs}
use Rattle.flow_exec.proofs.execution.Execution.take_back.Goals as goal

pub invariant_of-self : goal.invariant_of-self
invariant_of-self g c =
    returned_runs c.end_job.result c.args.ticket c.args.answer c.self.inside.block c.end_job.new.self c.end_job.ensures.done
    c.end_job.ensures.kept c.self.invariant
