use Rattle.std.proofs.Common.{ap, sym, subst, ◌∙◌}
use Rattle.flow_kinds.specs.ReservingJoin.{ReservingState, ReservingFits, joined}
use Rattle.flow_kinds.specs.Wishes.{next_wish, after_wish}
use Rattle.flow_kinds.proofs.JoinFits.{wish_fits}
use Rattle.flow_kinds.proofs.WishesTell.{wish_goes, wish_stays}
use Rattle.flow_kinds.proofs.reserving_calls.ReservingJoinTargetBlock.next_wish.Goals as goal

pub invariant_of-self : goal.invariant_of-self
invariant_of-self c =
    let inside = c.self.inside in
    subst (λ (later : ReservingState). ReservingFits later.block later.round) (sym c.make_wish.ensures.done)
    (wish_fits (joined inside.block inside.round) c.self.invariant)

pub returns-clause-takes : goal.returns-clause-takes
returns-clause-takes c = (c.make_wish.ensures.told ∙ ap next_wish c.self.view_is, c.make_wish.ensures.done ∙ ap after_wish c.self.view_is)

pub returns-clause-moves : goal.returns-clause-moves
returns-clause-moves c =
    wish_goes c.args.self.now (joined c.make_wish.new.block c.make_wish.new.round) c.make_wish.result
    (c.make_wish.ensures.told ∙ ap next_wish c.self.view_is) (c.make_wish.ensures.done ∙ ap after_wish c.self.view_is)

pub returns-clause-outcome_stays : goal.returns-clause-outcome_stays
returns-clause-outcome_stays c =
    wish_stays c.args.self.now (joined c.make_wish.new.block c.make_wish.new.round) (c.make_wish.ensures.done ∙ ap after_wish c.self.view_is)
