use Rattle.std.proofs.Common.{sym, subst}
use Rattle.flow_link.specs.TargetCalls.{Wants}
use Rattle.flow_block.specs.Traits.{target_over}
use Rattle.flow_kinds.specs.BatchedJoin.{JoinState, JoinFits}
use Rattle.flow_group.specs.Group.{ArrivalsState}
use Rattle.flow_kinds.proofs.DueMessages.{some_room, arrive_fits}
use Rattle.flow_kinds.proofs.batched_calls.BatchedJoinTargetBlock.hand_over.Goals as goal

pub note-requires : goal.note-requires
note-requires c =
    let wants = subst (λ (join : JoinState). Wants c.args.header (target_over join.block.ports c.args.origin)) (sym c.self.view_is) c.requires in
    some_room c.self.inside.block c.self.inside.order c.self.invariant c.args.origin c.args.header wants

pub invariant_of-self : goal.invariant_of-self
invariant_of-self c =
    let wants = subst (λ (join : JoinState). Wants c.args.header (target_over join.block.ports c.args.origin)) (sym c.self.view_is) c.requires in
    subst (λ (order : ArrivalsState). JoinFits c.hand_over.new.self order) (sym c.note.ensures)
    (arrive_fits c.self.inside.block c.self.inside.order c.self.invariant c.args.origin c.args.header wants c.args.parcel c.hand_over.new.self
    c.port_into-port.result c.port_into-port.ensures c.hand_over.ensures.takes)
