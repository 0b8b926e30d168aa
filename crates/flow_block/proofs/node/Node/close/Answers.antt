use Rattle.std.proofs.Common.{◌≡◌, true, ◌<◌, length, subst, sym, arith}
use Rattle.flow_intake.specs.Port.{stage_at as port_stage, is_hand}
use Rattle.flow_intake.specs.Calls.{closes}
use Rattle.flow_block.specs.Block.{port_at, with_port}
use Rattle.flow_block.specs.Node.{NodeState}
use Rattle.flow_block.proofs.CopiesTaken.{due_taken}
use Rattle.flow_block.proofs.MarksFit.{due_closes}
use Rattle.flow_block.proofs.node.Node.close.Goals as goal

pub push_reserved-requires : goal.push_reserved-requires
push_reserved-requires c =
    let here = subst (λ (node : NodeState). c.args.port < length node.block.ports) (sym c.self.view_is) c.requires.port in
    let there = subst (λ (node : NodeState). c.args.place < length (port_at c.args.port node.block).ends) (sym c.self.view_is) c.requires.place in
    let hand = subst (λ (node : NodeState). is_hand (port_stage c.args.place (port_at c.args.port node.block)) ≡ true) (sym c.self.view_is) c.requires.hand in
    omega (arith, c.self.invariant, due_closes c.args.port c.self.inside.block here c.args.place there c.close-value.result hand)

pub invariant_of-self : goal.invariant_of-self
invariant_of-self c =
    let here = subst (λ (node : NodeState). c.args.port < length node.block.ports) (sym c.self.view_is) c.requires.port in
    let there = subst (λ (node : NodeState). c.args.place < length (port_at c.args.port node.block).ends) (sym c.self.view_is) c.requires.place in
    let hand = subst (λ (node : NodeState). is_hand (port_stage c.args.place (port_at c.args.port node.block)) ≡ true) (sym c.self.view_is) c.requires.hand in
    let block = c.self.inside.block in
    let value = c.close-value.result in
    rw (c.copy_taken.ensures, c.close-value.ensures.closed) (omega (
      arith,
      c.self.invariant,
      c.push_reserved.ensures.len,
      c.push_reserved.ensures.capacity,
      due_taken (with_port c.args.port (closes c.args.place value) block),
      due_closes c.args.port block here c.args.place there value hand,
    ))
