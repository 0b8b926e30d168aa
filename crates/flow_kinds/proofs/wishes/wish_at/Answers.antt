use Rattle.std.proofs.Common.{ap, sym, ◌∙◌}
use Rattle.flow_kinds.specs.Wishes.{is_ask, front_place}
use Rattle.flow_kinds.proofs.WishesTell.{wishing_is, asked_room}
use Rattle.flow_kinds.proofs.wishes.wish_at.Goals as goal

pub ask-requires-clause-room : goal.ask-requires-clause-room
ask-requires-clause-room c =
    let ports = c.args.block.now.ports in
    let wishing = wishing_is c.args.failing c.args.round.now ports c.args.port c.requires.there c.requires.wishes in
    asked_room c.args.failing c.args.round.now ports c.args.port (front_place c.args.port ports) wishing.own.front
    (ap is_ask (sym c.next_at-next.ensures) ∙ sym c.if-is_ask.ensures) c.requires.there
