use Rattle.std.proofs.Common.{◌≡◌, true, ◌<◌, length, subst, sym, arith}
use Rattle.flow_spread.specs.Spread.{is_asked_by, stage_at}
use Rattle.flow_block.specs.Node.{NodeState}
use Rattle.flow_block.proofs.CopiesFit.{due_hold_copy}
use Rattle.flow_block.proofs.node.Node.hold_copy.Goals as goal

pub invariant_of-self : goal.invariant_of-self
invariant_of-self c =
    let here = subst (λ (node : NodeState). c.args.place < length node.block.copies.ends) (sym c.self.view_is) c.requires.there in
    let asks = subst (λ (node : NodeState). is_asked_by (stage_at node.block.copies c.args.place) ≡ true) (sym c.self.view_is) c.requires.asks in
    rw c.hold_copy.ensures (omega (arith, c.self.invariant, due_hold_copy c.self.inside.block c.args.place here asks))
