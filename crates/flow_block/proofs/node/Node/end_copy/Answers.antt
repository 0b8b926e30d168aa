use Rattle.std.proofs.Common.{◌<◌, length, subst, sym, arith}
use Rattle.flow_block.specs.Node.{NodeState}
use Rattle.flow_block.proofs.CopiesFit.{due_end_copy}
use Rattle.flow_block.proofs.node.Node.end_copy.Goals as goal

pub invariant_of-self : goal.invariant_of-self
invariant_of-self c =
    let here = subst (λ (node : NodeState). c.args.place < length node.block.copies.ends) (sym c.self.view_is) c.requires.there in
    rw c.end_copy.ensures (omega (arith, c.self.invariant, due_end_copy c.self.inside.block c.args.place here c.args.how))
