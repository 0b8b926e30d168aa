use Rattle.std.proofs.Common.{◌<◌, length, subst, sym, arith}
use Rattle.flow_block.specs.Node.{NodeState}
use Rattle.flow_block.proofs.CopiesFit.{due_offer_copy}
use Rattle.flow_block.proofs.node.Node.offer_copy.Goals as goal

pub invariant_of-self-2 : goal.invariant_of-self-2
invariant_of-self-2 c =
    let here = subst (λ (node : NodeState). c.args.place < length node.block.copies.ends) (sym c.self.view_is) c.requires.there in
    rw c.in_ok-header.ensures.done (omega (arith, c.in_ok-reserve_mark.ensures.room, due_offer_copy c.self.inside.block c.args.place here))
