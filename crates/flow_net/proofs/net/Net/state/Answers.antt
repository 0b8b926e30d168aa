use Rattle.std.proofs.Common.{ap, sym, ◌∙◌}
use Rattle.flow_block.specs.Block.{BlockState}
use Rattle.flow_block.specs.Node.{NodeState}
use Rattle.flow_block.specs.Peeks.{is_complete}
use Rattle.flow_net.specs.Net.{layout_in, parts_of}
use Rattle.flow_net.specs.States.{state_told}
use Rattle.flow_net.proofs.NetTells.{state_is}
use Rattle.flow_net.proofs.BlocksTell.{node_there}
use Rattle.flow_net.proofs.net.Net.state.Goals as goal

pub returns : goal.returns
returns g c =
    let net = c.args.self.now in
    let block_is = c.block.ensures ∙ ap (λ (node : NodeState). node.block) c.node.ensures in
    c.state_of.ensures
    ∙ ap (λ (block : BlockState). state_told block.stopped (is_complete block)) block_is
    ∙ sym (state_is g.W.Runs.meaning (layout_in net) (parts_of net) net.kept c.args.block c.requires)

pub node-requires : goal.node-requires
node-requires g c =
    let engine = c.args.self.now.engine in
    node_there g.W.Runs.meaning engine.plan engine.parts c.args.self.now.kept c.args.block c.requires
