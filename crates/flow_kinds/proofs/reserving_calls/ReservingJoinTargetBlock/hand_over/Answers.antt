use Rattle.std.proofs.Common.{false, List, ap, sym, subst, ◌∙◌}
use Rattle.flow_link.specs.TargetCalls.{Wants}
use Rattle.flow_intake.specs.Port.{PortState}
use Rattle.flow_group.specs.Round.{settles}
use Rattle.flow_block.specs.Traits.{target_over}
use Rattle.flow_kinds.specs.ReservingJoin.{ReservingState}
use Rattle.flow_kinds.proofs.JoinFits.{arrive_fits}
use Rattle.flow_kinds.proofs.reserving_calls.ReservingJoinTargetBlock.hand_over.Goals as goal

pub invariant_of-self : goal.invariant_of-self
invariant_of-self c =
    let inside = c.self.inside in
    let wants = subst (λ (join : ReservingState). Wants c.args.header (target_over join.block.ports c.args.origin)) (sym c.self.view_is) c.requires in
    arrive_fits inside.block c.hand_over.new.self inside.round c.self.invariant c.settle.new.self c.args.origin c.args.header c.args.parcel wants
    c.hand_over.ensures.takes
    (c.settle.ensures ∙ ap (λ (ports : List PortState). settles false ports inside.round) c.ports.ensures)
