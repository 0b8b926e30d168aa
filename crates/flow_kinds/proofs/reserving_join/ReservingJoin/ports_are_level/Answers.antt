use Rattle.std.proofs.Common.{subst}
use Rattle.flow_kinds.specs.ReservingJoin.{ReservingState, joined}
use Rattle.flow_kinds.specs.WishLaws.{PortsLevel}
use Rattle.flow_kinds.proofs.WishLaws.{ports_level}
use Rattle.flow_kinds.proofs.reserving_join.ReservingJoin.ports_are_level.Goals as goal

pub returns : goal.returns
returns c =
    let inside = c.self.inside in
    subst (λ (join : ReservingState). PortsLevel join) c.self.view_is (ports_level (joined inside.block inside.round) c.self.invariant)
