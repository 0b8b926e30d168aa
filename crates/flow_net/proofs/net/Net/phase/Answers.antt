use Rattle.flow_net.proofs.BlocksTell.{line_there}
use Rattle.flow_net.proofs.net.Net.phase.Goals as goal

pub phase-requires : goal.phase-requires
phase-requires g c =
    let engine = c.args.self.now.engine in
    line_there g.W.Runs.meaning engine.plan engine.parts c.args.self.now.kept c.args.link c.requires
