use Rattle.flow_net.proofs.ExitsGoOn.{place_there}
use Rattle.flow_net.proofs.exit.NetExit.outcome.Goals as goal

pub exit-requires : goal.exit-requires
exit-requires g c =
    let port = c.args.self.now in
    place_there g.W.Runs.meaning port.engine.plan port.block port.link port.place port.there port.own port.placed
    port.engine.parts port.kept
