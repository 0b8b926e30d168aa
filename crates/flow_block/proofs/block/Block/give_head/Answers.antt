use Rattle.std.proofs.Common.{◌≡◌, true, Some, sym, ◌∙◌}
use Rattle.flow_outlet.specs.ByLink.{place_of, is_there}
use Rattle.flow_block.proofs.RoomFits.{back_given, fits_back}
use Rattle.flow_block.proofs.SourceStands.{given_there, consumed_home}
use Rattle.flow_block.proofs.TakesTell.{head_refused, head_gone, head_given}
use Rattle.flow_block.proofs.block.Block.give_head.Goals as goal

pub consume_message-requires : goal.consume_message-requires
consume_message-requires c = c.may_consume.ensures.0 c.if-not-may_consume.false

pub bring_back-requires : goal.bring_back-requires
bring_back-requires c =
    let o = c.self.inside.exits in
    let there : is_there (place_of c.args.link o.ends) c.args.header o ≡ true =
    given_there o c.args.link c.args.header c.in_ok-parcel.parcel (sym c.consume_message.ensures.consumed ∙ c.in_ok-parcel.was) in
    rw (c.consume_message.ensures.left ∙ consumed_home o c.args.link c.args.header there)
    (back_given c.self.inside.copies c.self.invariant (place_of c.args.link o.ends))

pub invariant_of-self-2 : goal.invariant_of-self-2
invariant_of-self-2 c =
    let o = c.self.inside.exits in
    let there : is_there (place_of c.args.link o.ends) c.args.header o ≡ true =
    given_there o c.args.link c.args.header c.in_ok-parcel.parcel (sym c.consume_message.ensures.consumed ∙ c.in_ok-parcel.was) in
    let left = c.consume_message.ensures.left ∙ consumed_home o c.args.link c.args.header there in
    let fits = fits_back c.self.inside.copies c.self.invariant (place_of c.args.link o.ends) c.self.inside.kind (Some c.value.result.now) in
    rw (c.bring_back.ensures.back, c.bring_back.ensures.told, left) (record { room = fits.room; few = fits.few })

pub returns-then-not-may_consume : goal.returns-then-not-may_consume
returns-then-not-may_consume c =
    let none = head_refused c.args.link c.args.header c.self.view_is c.may_consume.result c.may_consume.ensures c.if-not-may_consume.true in
    record { given = none.given; left = none.left }

pub returns-in_err-parcel : goal.returns-in_err-parcel
returns-in_err-parcel c =
    let none = head_gone c.args.link c.args.header c.self.view_is c.may_consume.result c.may_consume.ensures c.if-not-may_consume.false
    (sym c.consume_message.ensures.consumed ∙ c.in_err-parcel.was) c.consume_message.new.self c.consume_message.ensures.left in
    record { given = c.from_residual.ensures ∙ none.given; left = none.left }

pub returns : goal.returns
returns c =
    let gives = head_given c.args.link c.args.header c.self.view_is c.may_consume.result c.may_consume.ensures c.if-not-may_consume.false
    (sym c.consume_message.ensures.consumed ∙ c.in_ok-parcel.was) c.value.ensures c.consume_message.ensures.left c.bring_back.ensures.told
    c.bring_back.ensures.back in
    record { given = gives.given; left = gives.left }
