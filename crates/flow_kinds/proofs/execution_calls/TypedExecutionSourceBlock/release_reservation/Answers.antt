use Rattle.std.proofs.Common.{◌∙◌}
use Rattle.flow_link.specs.SourceCalls.{SourceCall}
use Rattle.flow_kinds.proofs.KindsStay.{gives_stay}
use Rattle.flow_kinds.proofs.execution_calls.TypedExecutionSourceBlock.release_reservation.Goals as goal

pub invariant_of-self : goal.invariant_of-self
invariant_of-self g c =
    (gives_stay c.self.inside.execution.block c.release_reservation.new.self.block (SourceCall.released c.args.link c.args.header) c.release_reservation.ensures.gives.0).kind
    ∙ c.self.invariant
