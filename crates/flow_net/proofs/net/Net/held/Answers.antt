use Rattle.std.proofs.Common.{◌<◌, length, subst, sym}
use Rattle.flow_link.specs.Planned.{layout_of}
use Rattle.flow_block.specs.Block.{BlockState}
use Rattle.flow_net.proofs.BlocksTell.{block_at, node_there, port_there}
use Rattle.flow_net.proofs.net.Net.held.Goals as goal

pub node-requires : goal.node-requires
node-requires g c =
    let engine = c.args.self.now.engine in
    node_there g.W.Runs.meaning engine.plan engine.parts c.args.self.now.kept c.args.block c.requires.known

pub waiting-requires : goal.waiting-requires
waiting-requires g c =
    let engine = c.args.self.now.engine in
    subst (λ (it : BlockState). c.args.port < length it.ports)
    (sym (block_at (layout_of engine.plan) engine.parts c.args.block c.node.ensures c.block.ensures))
    (port_there g.W.Runs.meaning engine.plan engine.parts c.args.self.now.kept c.args.block c.args.port c.requires.known
    c.requires.port)
