use Rattle.flow_net.proofs.BlocksTell.{node_there}
use Rattle.flow_net.proofs.engine.Engine.event_beside.Goals as goal

pub node-requires : goal.node-requires
node-requires g c =
    node_there g.W.Runs.meaning c.args.self.now.plan c.args.self.now.parts c.requires.kept c.args.number c.requires.known
