use Rattle.std.proofs.Common.{refl, subst, sym}
use Rattle.flow_spread.specs.ByLink.{IsReserved, releases}
use Rattle.flow_block.specs.Block.{BlockState}
use Rattle.flow_block.specs.Copies.{copies_weight}
use Rattle.flow_block.proofs.CopiesFit.{release_left}
use Rattle.flow_block.proofs.RoomFits.{copied_out, fits_copied}
use Rattle.flow_block.proofs.block.Block.release_copy.Goals as goal

pub give_back-requires : goal.give_back-requires
give_back-requires c =
    rw (c.release_reservation.ensures, c.copies_weight-counted.ensures)
    (copied_out c.self.invariant (copies_weight (releases c.args.link c.args.header c.self.inside.copies)))

pub invariant_of-self : goal.invariant_of-self
invariant_of-self c =
    let s = c.self.inside.copies in
    let kept = subst (λ (block : BlockState). IsReserved c.args.link c.args.header block.copies) (sym c.self.view_is) c.requires in
    rw (c.give_back.ensures, c.release_reservation.ensures, c.copies_weight-counted.ensures)
    (fits_copied c.self.invariant (copies_weight (releases c.args.link c.args.header s)) (release_left s c.args.link c.args.header kept.known))

pub returns : goal.returns
returns c = rw (← c.self.view_is, c.give_back.ensures, c.release_reservation.ensures, c.copies_weight-counted.ensures) refl
