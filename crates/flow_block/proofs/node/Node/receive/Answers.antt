use Rattle.std.proofs.Common.{◌≡◌, true, ◌<◌, length, refl, subst, sym, arith}
use Rattle.flow_intake.specs.Receives.{takes_at_once, receives}
use Rattle.flow_block.specs.Block.{port_at, with_port}
use Rattle.flow_block.specs.Node.{NodeState}
use Rattle.flow_block.proofs.CopiesTaken.{due_taken}
use Rattle.flow_block.proofs.PassesOfNodes.{due_receives, receives_is}
use Rattle.flow_block.proofs.node.Node.receive.Goals as goal

pub push_reserved-requires : goal.push_reserved-requires
push_reserved-requires c =
    let here = subst (λ (node : NodeState). c.args.port < length node.block.ports) (sym c.self.view_is) c.requires.port in
    let there = subst (λ (node : NodeState). c.args.place < length (port_at c.args.port node.block).ends) (sym c.self.view_is) c.requires.place in
    let takes = subst (λ (node : NodeState). takes_at_once c.args.place (port_at c.args.port node.block) ≡ true) (sym c.self.view_is) c.requires.takes in
    let ready = subst (λ (node : NodeState). (port_at c.args.port node.block).ready ≡ true) (sym c.self.view_is) c.requires.ready in
    omega (
      arith,
      c.self.invariant,
      due_receives c.args.port c.args.place 0 c.receive-value.result c.self.inside.block here there takes ready,
    )

pub invariant_of-self : goal.invariant_of-self
invariant_of-self c =
    let here = subst (λ (node : NodeState). c.args.port < length node.block.ports) (sym c.self.view_is) c.requires.port in
    let there = subst (λ (node : NodeState). c.args.place < length (port_at c.args.port node.block).ends) (sym c.self.view_is) c.requires.place in
    let takes = subst (λ (node : NodeState). takes_at_once c.args.place (port_at c.args.port node.block) ≡ true) (sym c.self.view_is) c.requires.takes in
    let ready = subst (λ (node : NodeState). (port_at c.args.port node.block).ready ≡ true) (sym c.self.view_is) c.requires.ready in
    let block = c.self.inside.block in
    rw (c.copy_taken.ensures, c.receive-value.ensures.received 0) (omega (
      arith,
      c.self.invariant,
      c.push_reserved.ensures.len,
      c.push_reserved.ensures.capacity,
      due_taken (with_port c.args.port (receives c.args.place 0 c.receive-value.result) block),
      due_receives c.args.port c.args.place 0 c.receive-value.result c.self.inside.block here there takes ready,
    ))

pub returns : goal.returns
returns c i =
    let here = c.requires.port in
    let there = c.requires.place in
    rw (
      receives_is c.args.port c.args.place i c.args.parcel c.args.self.now here there,
      ← c.self.view_is,
      c.push_reserved.ensures.items,
      c.new.ensures,
      c.copy_taken.ensures,
      c.receive-value.ensures.received i,
      c.in_link-link.ensures,
      c.receive-value.ensures.value,
    ) refl
