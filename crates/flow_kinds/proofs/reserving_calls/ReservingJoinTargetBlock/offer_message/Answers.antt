use Rattle.std.proofs.Common.{◌≡◌, sym, subst}
use Rattle.flow_link.specs.declared.stage.TargetStage.TheVariants.{Free}
use Rattle.flow_block.specs.Traits.{target_over}
use Rattle.flow_kinds.specs.ReservingJoin.{ReservingState}
use Rattle.flow_kinds.proofs.JoinFits.{offered_fits}
use Rattle.flow_kinds.proofs.reserving_calls.ReservingJoinTargetBlock.offer_message.Goals as goal

pub invariant_of-self : goal.invariant_of-self
invariant_of-self c =
    let free = subst (λ (join : ReservingState). target_over join.block.ports c.args.origin ≡ Free) (sym c.self.view_is) c.requires in
    offered_fits c.self.inside.block c.offer_message.new.self c.self.inside.round c.args.origin c.args.header c.args.may_postpone c.offer_message.result
    c.self.invariant free c.offer_message.ensures.takes c.offer_message.ensures.kept
