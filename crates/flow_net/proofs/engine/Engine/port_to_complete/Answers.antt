-- A block has three ports at most, so each of their numbers fits; one that would not complete is passed over.
use Rattle.std.proofs.Common.{◌≡◌, ℕ, ◌≤◌, false, length, ap, subst, sym, ◌∙◌, arith}
use Rattle.flow_link.specs.Planned.{layout_of}
use Rattle.flow_block.specs.Block.{BlockState}
use Rattle.flow_block.specs.Node.{NodeState}
use Rattle.flow_block.specs.Peeks.{may_complete}
use Rattle.flow_core.specs.State.{node_at}
use Rattle.flow_exec.specs.Works.{works_of}
use Rattle.flow_net.proofs.FindersTell.{few_ports, one_more}
use Rattle.flow_net.proofs.BlocksTell.{node_there}
use Rattle.flow_net.proofs.engine.Engine.port_to_complete.Goals as goal

pub overflow_cast-result : goal.overflow_cast-result
overflow_cast-result g c =
    let now = c.args.self.now in
    let block_is = c.block-block.ensures ∙ ap (λ (node : NodeState). node.block) c.node.ensures in
    let few : length c.block-block.result.now.ports ≤ 3 =
    subst (λ (block : BlockState). length block.ports ≤ 3) (sym block_is)
    (few_ports now.plan (works_of g.W.Runs.meaning (layout_of now.plan)) now.parts c.requires.kept c.args.number c.requires.known) in
    omega (arith, few, c.loop-port-test.true, c.port_count-port-end.ensures)

pub loop-port-preserved : goal.loop-port-preserved
loop-port-preserved g c =
    let block_is = c.block-block.ensures ∙ ap (λ (node : NodeState). node.block) c.node.ensures in
    one_more (λ (p : ℕ). may_complete p (node_at c.args.self.now.parts c.args.number).block ≡ false) c.loop-port.port
    c.loop-port.invariant
    (subst (λ (block : BlockState). may_complete c.loop-port.port block ≡ false) block_is
    (sym c.may_complete.ensures ∙ c.if-may_complete.false))

pub node-requires : goal.node-requires
node-requires g c =
    node_there g.W.Runs.meaning c.args.self.now.plan c.args.self.now.parts c.requires.kept c.args.number c.requires.known
