use Rattle.flow_link.specs.SourceCalls.{SourceCall}
use Rattle.flow_kinds.proofs.KindsStay.{gives_stay, stays_of}
use Rattle.flow_kinds.proofs.block_calls.TypedBlockSourceBlock.release_reservation.Goals as goal

pub invariant_of-self : goal.invariant_of-self
invariant_of-self g c =
    stays_of g.K.Kind.kind c.self.inside.block c.release_reservation.new.self
    (gives_stay c.self.inside.block c.release_reservation.new.self (SourceCall.released c.args.link c.args.header) c.release_reservation.ensures.gives) c.self.invariant
