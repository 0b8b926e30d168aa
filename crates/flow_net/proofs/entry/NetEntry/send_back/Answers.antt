use Rattle.flow_core.specs.State.{callers_in}
use Rattle.std.proofs.Common.{refl, ap}
use Rattle.flow_input.specs.Input.{InputCall}
use Rattle.flow_net.proofs.EntriesGoOn.{entry_called, entry_there, kept_called}
use Rattle.flow_net.proofs.NoneAsked.{unasked_then}
use Rattle.flow_net.proofs.entry.NetEntry.send_back.Goals as goal

pub send_back_at-requires : goal.send_back_at-requires
send_back_at-requires g c =
    let port = c.args.self.now in
    entry_there g.W.Runs.meaning port.engine.plan port.block port.link port.place port.there port.own port.placed
    port.engine.parts port.kept

pub invariant_of-self : goal.invariant_of-self
invariant_of-self g c =
    let port = c.args.self.now in
    let kept = kept_called g.W.Runs.meaning port.engine.plan port.block port.link port.place port.there port.own port.placed
    (InputCall.send_back c.args.value c.args.at_once) refl port.engine.parts c.send_back_at.new.self c.send_back_at.ensures port.kept c.requires in
    let unasked = unasked_then port.engine.parts c.send_back_at.new.self (ap callers_in c.send_back_at.ensures) port.unasked in
    ((port.engine.routed, tt), (kept, (port.there, (port.own, (port.placed, (unasked, tt))))))

pub returns-clause-back : goal.returns-clause-back
returns-clause-back g c =
    let port = c.args.self.now in
    entry_called g.W.Runs.meaning port.engine.plan port.block port.link port.place port.there port.own port.placed
    (InputCall.send_back c.args.value c.args.at_once) refl port.engine.parts c.send_back_at.new.self c.send_back_at.ensures port.kept
