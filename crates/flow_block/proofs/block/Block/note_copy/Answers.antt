use Rattle.std.proofs.Common.{refl, subst, sym}
use Rattle.flow_spread.specs.ByLink.{IsAsked, place_of, answered}
use Rattle.flow_block.specs.Block.{BlockState}
use Rattle.flow_block.specs.Copies.{copies_weight}
use Rattle.flow_block.proofs.CopiesFit.{answer_left}
use Rattle.flow_block.proofs.RoomFits.{copied_out, fits_copied}
use Rattle.flow_block.proofs.block.Block.note_copy.Goals as goal

pub give_back-requires : goal.give_back-requires
give_back-requires c =
    let s = c.self.inside.copies in
    rw (c.note_answer.ensures, c.copies_weight-counted.ensures)
    (copied_out c.self.invariant (copies_weight (answered c.args.status c.args.header (place_of c.args.link s.ends) s)))

pub invariant_of-self : goal.invariant_of-self
invariant_of-self c =
    let s = c.self.inside.copies in
    let k = place_of c.args.link s.ends in
    let asked = subst (λ (block : BlockState). IsAsked c.args.link c.args.header block.copies) (sym c.self.view_is) c.requires in
    rw (c.give_back.ensures, c.note_answer.ensures, c.copies_weight-counted.ensures)
    (fits_copied c.self.invariant (copies_weight (answered c.args.status c.args.header k s))
    (answer_left s k c.args.header c.args.status asked.known))

pub returns : goal.returns
returns c = rw (← c.self.view_is, c.give_back.ensures, c.note_answer.ensures, c.copies_weight-counted.ensures) refl
