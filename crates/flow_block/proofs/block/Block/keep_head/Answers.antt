use Rattle.flow_block.proofs.TakesTell.{never_waits, never_crosses, head_kept}
use Rattle.flow_block.proofs.block.Block.keep_head.Goals as goal

pub returns-then-not-may_reserve : goal.returns-then-not-may_reserve
returns-then-not-may_reserve c =
    let none = never_waits c.args.link c.args.header c.self.view_is c.may_reserve.result c.may_reserve.ensures c.if-not-may_reserve.true in
    record { told = none.told; left = none.left }

pub returns-then-not-may_consume : goal.returns-then-not-may_consume
returns-then-not-may_consume c =
    let none = never_crosses c.args.link c.args.header c.self.view_is c.may_reserve.result c.may_reserve.ensures c.may_consume.result
    c.may_consume.ensures c.if-not-may_consume.true in
    record { told = none.told; left = none.left }

pub reserve_message-requires : goal.reserve_message-requires
reserve_message-requires c = c.may_reserve.ensures.0 c.if-not-may_reserve.false

pub returns : goal.returns
returns c =
    let keeps = head_kept c.args.link c.args.header c.self.view_is c.may_reserve.result c.may_reserve.ensures c.may_consume.result
    c.may_consume.ensures c.if-not-may_reserve.false c.if-not-may_consume.false c.reserve_message.ensures.told c.reserve_message.ensures.kept in
    record { told = keeps.told; left = keeps.left }
