use Rattle.std.proofs.Common.{◌≡◌, true, sym, ◌∙◌, subst}
use Rattle.flow_spread.specs.ByLink.{reserves}
use Rattle.flow_block.specs.Block.{BlockState}
use Rattle.flow_block.specs.Copies.{copies_weight}
use Rattle.flow_block.specs.Traits.{may_keep_copy}
use Rattle.flow_block.proofs.CopiesFit.{keep_left}
use Rattle.flow_block.proofs.CopyKept.{may_reserve}
use Rattle.flow_block.proofs.RoomFits.{copied_out, fits_copied}
use Rattle.flow_block.proofs.block.Block.keep_copy.Goals as goal

pub give_back-requires : goal.give_back-requires
give_back-requires c =
    rw (c.reserve_message-kept.ensures.kept, c.copies_weight-counted.ensures)
    (copied_out c.self.invariant (copies_weight (reserves c.args.link c.args.header c.self.inside.copies)))

pub invariant_of-self : goal.invariant_of-self
invariant_of-self c =
    let s = c.self.inside.copies in
    let keep = subst (λ (block : BlockState). may_keep_copy c.args.link c.args.header block.copies ≡ true) (sym c.self.view_is)
    (sym c.may_keep_copy.ensures ∙ c.if-not-may_keep_copy.false) in
    rw (c.give_back.ensures, c.reserve_message-kept.ensures.kept, c.copies_weight-counted.ensures)
    (fits_copied c.self.invariant (copies_weight (reserves c.args.link c.args.header s))
    (keep_left s c.args.link c.args.header (may_reserve s c.args.link c.args.header keep).known))
