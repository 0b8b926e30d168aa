use Rattle.std.proofs.Common.{arith}
use Rattle.flow_block.proofs.MarksFit.{due_failed}
use Rattle.flow_block.proofs.node.Node.fail.Goals as goal

pub invariant_of-self : goal.invariant_of-self
invariant_of-self c = rw c.fail.ensures (omega (arith, c.self.invariant, due_failed c.args.number c.self.inside.block))
