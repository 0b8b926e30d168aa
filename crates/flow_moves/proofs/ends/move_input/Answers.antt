use Rattle.std.proofs.Common.{ap, subst, ◌∙◌, is_some}
use Rattle.flow_link.specs.declared.phase.Move.{Move}
use Rattle.flow_input.specs.Input.{InputState}
use Rattle.flow_moves.specs.Ready.{InputIsReady}
use Rattle.flow_moves.proofs.MovesPrepared.{next_is_there}
use Rattle.flow_moves.proofs.ends.move_input.Goals as goal

pub offer-requires-clause-ready : goal.offer-requires-clause-ready
offer-requires-clause-ready c =
    ap (λ (input : InputState). is_some input.parcel) c.in_ok-prepare-in-Offer.ensures.done
    ∙ next_is_there c.args.input.now.sent c.args.input.now.posted
    (subst (λ (next : Move). InputIsReady next c.args.input.now) c.in-Offer.is c.requires).may.there
