use Rattle.std.proofs.Common.{ap, ◌∙◌}
use Rattle.flow_link.specs.Planned.{layout_of}
use Rattle.flow_block.specs.Node.{NodeState, left_in}
use Rattle.flow_net.proofs.NetTells.{left_is}
use Rattle.flow_net.proofs.BlocksTell.{node_there}
use Rattle.flow_net.proofs.net.Net.left.Goals as goal

pub returns : goal.returns
returns g c =
    let engine = c.args.self.now.engine in
    c.left_of.ensures ∙ ap left_in (c.block.ensures ∙ ap (λ (node : NodeState). node.block) c.node.ensures)
    ∙ left_is g.W.Runs.meaning (layout_of engine.plan) engine.parts c.args.block

pub node-requires : goal.node-requires
node-requires g c =
    let engine = c.args.self.now.engine in
    node_there g.W.Runs.meaning engine.plan engine.parts c.args.self.now.kept c.args.block c.requires
