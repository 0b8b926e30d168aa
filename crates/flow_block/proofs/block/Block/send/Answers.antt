use Rattle.std.proofs.Common.{Some}
use Rattle.flow_block.proofs.RoomFits.{back_given, fits_back}
use Rattle.flow_block.proofs.block.Block.send.Goals as goal

pub bring_back-requires : goal.bring_back-requires
bring_back-requires c =
    rw c.in_ok-sent.ensures.sent (back_given c.self.inside.copies c.self.invariant c.args.place)

pub invariant_of-self-2 : goal.invariant_of-self-2
invariant_of-self-2 c =
    let fits = fits_back c.self.inside.copies c.self.invariant c.args.place c.self.inside.kind (Some c.in_ok-sent.sent.0) in
    rw (c.bring_back.ensures.back, c.bring_back.ensures.told, c.in_ok-sent.ensures.sent)
    (record { room = fits.room; few = fits.few })
