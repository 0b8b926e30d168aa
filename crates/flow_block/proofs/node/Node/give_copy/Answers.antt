use Rattle.std.proofs.Common.{◌≡◌, true, ◌<◌, length, subst, sym, arith}
use Rattle.flow_spread.specs.Spread.{may_give}
use Rattle.flow_block.specs.Node.{NodeState}
use Rattle.flow_block.proofs.CopiesFit.{due_give_copy}
use Rattle.flow_block.proofs.node.Node.give_copy.Goals as goal

pub push_reserved-requires : goal.push_reserved-requires
push_reserved-requires c =
    let here = subst (λ (node : NodeState). c.args.place < length node.block.copies.ends) (sym c.self.view_is) c.requires.there in
    let wanted = subst (λ (node : NodeState). may_give c.args.place node.block.copies ≡ true) (sym c.self.view_is) c.requires.wanted in
    omega (arith, c.self.invariant, due_give_copy c.self.inside.block c.args.place here wanted)

pub invariant_of-self : goal.invariant_of-self
invariant_of-self c =
    let here = subst (λ (node : NodeState). c.args.place < length node.block.copies.ends) (sym c.self.view_is) c.requires.there in
    let wanted = subst (λ (node : NodeState). may_give c.args.place node.block.copies ≡ true) (sym c.self.view_is) c.requires.wanted in
    rw c.give_copy-value.ensures.given
    (omega (arith, c.self.invariant, c.push_reserved.ensures.len, c.push_reserved.ensures.capacity, due_give_copy c.self.inside.block c.args.place here wanted))
