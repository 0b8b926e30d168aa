use Rattle.std.proofs.Common.{◌<◌, length, subst, sym}
use Rattle.flow_spread.specs.Sends.{sends}
use Rattle.flow_block.specs.Block.{BlockState}
use Rattle.flow_block.specs.Copies.{copies_weight}
use Rattle.flow_block.proofs.CopiesSent.{send_left}
use Rattle.flow_block.proofs.RoomFits.{copied_out, fits_copied}
use Rattle.flow_block.proofs.TakesTell.{copies_changed}
use Rattle.flow_block.proofs.block.Block.send_copy.Goals as goal

pub give_back-requires : goal.give_back-requires
give_back-requires c =
    rw (c.send-sent.ensures.sent, c.copies_weight-counted.ensures) (copied_out c.self.invariant (copies_weight (sends c.args.place c.self.inside.copies)))

pub invariant_of-self : goal.invariant_of-self
invariant_of-self c =
    let here = subst (λ (block : BlockState). c.args.place < length block.copies.ends) (sym c.self.view_is) c.requires.there in
    rw (c.give_back.ensures, c.send-sent.ensures.sent, c.copies_weight-counted.ensures)
    (fits_copied c.self.invariant (copies_weight (sends c.args.place c.self.inside.copies)) (send_left c.self.inside.copies c.args.place here))

pub returns-clause-sent : goal.returns-clause-sent
returns-clause-sent c =
    copies_changed c.self.view_is (sends c.args.place) c.send-sent.ensures.sent c.copies_weight-counted.ensures c.give_back.ensures
