use Rattle.flow_link.specs.Planned.{layout_of}
use Rattle.flow_block.specs.Peeks.{may_begin}
use Rattle.flow_net.proofs.BlocksTell.{may_told, node_there}
use Rattle.flow_net.proofs.engine.Engine.may_begin.Goals as goal

pub node-requires : goal.node-requires
node-requires g c =
    node_there g.W.Runs.meaning c.args.self.now.plan c.args.self.now.parts c.requires.kept c.args.number c.requires.known

pub returns : goal.returns
returns g c =
    may_told (layout_of c.args.self.now.plan) c.args.self.now.parts c.args.number c.node.ensures c.block.ensures c.requires.known
    may_begin c.may_begin.ensures
