use Rattle.flow_exec.proofs.CallsRun.{release_runs}
use Rattle.flow_exec.proofs.traits.ExecutionSourceBlock.release_reservation.Goals as goal

pub invariant_of-self : goal.invariant_of-self
invariant_of-self g c =
    release_runs c.args.link c.args.header c.self.inside.block c.release_reservation.new.self c.release_reservation.ensures.gives
    c.self.invariant
