use Rattle.flow_net.proofs.BlocksTell.{node_there}
use Rattle.flow_net.proofs.net.Net.record.Goals as goal

pub node-requires : goal.node-requires
node-requires g c =
    let engine = c.args.self.now.engine in
    node_there g.W.Runs.meaning engine.plan engine.parts c.args.self.now.kept c.args.block c.requires
