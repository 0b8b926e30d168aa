use Rattle.std.proofs.Common.{Some}
use Rattle.flow_block.proofs.RoomFits.{back_given, fits_back}
use Rattle.flow_block.proofs.block.Block.give.Goals as goal

pub bring_back-requires : goal.bring_back-requires
bring_back-requires c =
    rw c.give-given.ensures.given (back_given c.self.inside.copies c.self.invariant c.args.place)

pub invariant_of-self : goal.invariant_of-self
invariant_of-self c =
    rw (c.bring_back.ensures.back, c.bring_back.ensures.told, c.give-given.ensures.given)
    (fits_back c.self.inside.copies c.self.invariant c.args.place c.self.inside.kind (Some c.give-given.result.0))
