use Rattle.flow_net.proofs.EntriesGoOn.{entry_there}
use Rattle.flow_net.proofs.entry.NetEntry.is_idle.Goals as goal

pub input-requires : goal.input-requires
input-requires g c =
    let port = c.args.self.now in
    entry_there g.W.Runs.meaning port.engine.plan port.block port.link port.place port.there port.own port.placed
    port.engine.parts port.kept
