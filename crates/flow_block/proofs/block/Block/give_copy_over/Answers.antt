use Rattle.std.proofs.Common.{◌≡◌, Bool, true, false, not, Option, None, is_some, option_copied, ap, sym, ◌∙◌}
use denote.Ref.{Bor}
use Rattle.flow_value.specs.declared.value.Value.{Value}
use Rattle.flow_spread.specs.ByLink.{consumes}
use Rattle.flow_block.specs.Copies.{copies_weight}
use Rattle.flow_block.proofs.CopiesFit.{consume_left}
use Rattle.flow_block.proofs.RoomFits.{copied_out, fits_copied}
use Rattle.flow_block.proofs.TakesTell.{GivesCopy, some_copied, no_element, copy_refused, copy_gone, copy_given}
use Rattle.flow_block.proofs.block.Block.give_copy_over.Goals.{then-is_none-via-then-is_none, then-is_none-via-else-is_none+then-not-may_consume}
use Rattle.flow_block.proofs.block.Block.give_copy_over.Goals as goal

pub consume_message-requires : goal.consume_message-requires
consume_message-requires c = c.may_consume.ensures.0 c.if-not-may_consume.false

pub give_back-requires : goal.give_back-requires
give_back-requires c =
    rw (c.consume_message.ensures.left, c.copies_weight-counted.ensures)
    (copied_out c.self.invariant (copies_weight (consumes c.args.link c.args.header c.self.inside.copies)))

pub invariant_of-self-2 : goal.invariant_of-self-2
invariant_of-self-2 c =
    let s = c.self.inside.copies in
    rw (c.give_back.ensures, c.consume_message.ensures.left, c.copies_weight-counted.ensures)
    (fits_copied c.self.invariant (copies_weight (consumes c.args.link c.args.header s))
    (consume_left s c.args.link c.args.header (c.may_consume.ensures.0 c.if-not-may_consume.false).known))

-- the element is there
there_is : (element : Option (Bor Value)) (held : Option Value) (none some : Bool) → is_some element ≡ not none
    → option_copied element ≡ held → none ≡ not some → is_some held ≡ some
there_is element held none true told held_is none_is = sym (ap is_some held_is) ∙ some_copied element ∙ told ∙ ap not none_is
there_is element held none false told held_is none_is = sym (ap is_some held_is) ∙ some_copied element ∙ told ∙ ap not none_is

pub returns-then-is_none : goal.returns-then-is_none
returns-then-is_none c =
    let none : GivesCopy c.args.link c.args.header c.args.self.now None c.args.self.now =
    elim c.then-is_none.branch [
      | then-is_none-via-then-is_none w ↦
          no_element c.args.link c.args.header c.self.view_is (there_is c.element.result c.self.inside.copies.element c.is_none.result false c.is_none.ensures c.element.ensures w.if-is_none.true)
      | then-is_none-via-else-is_none+then-not-may_consume w ↦
          copy_refused c.args.link c.args.header c.self.view_is w.may_consume.result w.may_consume.ensures w.if-not-may_consume.true
    ] in
    record { given = none.given; left = none.left }

pub returns-in_err-parcel : goal.returns-in_err-parcel
returns-in_err-parcel c =
    let none = copy_gone c.args.link c.args.header c.self.view_is c.may_consume.result c.may_consume.ensures
    (there_is c.element.result c.self.inside.copies.element c.is_none.result true c.is_none.ensures c.element.ensures c.if-is_none.false) c.if-not-may_consume.false
    (sym c.consume_message.ensures.consumed ∙ c.in_err-parcel.was) c.consume_message.new.self c.consume_message.ensures.left in
    record { given = c.from_residual.ensures ∙ none.given; left = none.left }

pub returns : goal.returns
returns c =
    let gives = copy_given c.args.link c.args.header c.self.view_is c.may_consume.result c.may_consume.ensures
    (there_is c.element.result c.self.inside.copies.element c.is_none.result true c.is_none.ensures c.element.ensures c.if-is_none.false) c.if-not-may_consume.false
    (sym c.consume_message.ensures.consumed ∙ c.in_ok-parcel.was) c.consume_message.ensures.left c.copies_weight-counted.ensures
    c.give_back.ensures in
    record { given = gives.given; left = gives.left }
