use Rattle.flow_core.specs.State.{callers_in}
use Rattle.std.proofs.Common.{refl, ap}
use Rattle.flow_input.specs.Input.{InputCall}
use Rattle.flow_input.proofs.OneProof.{idle_merely}
use Rattle.flow_net.specs.Entries.{entry_of}
use Rattle.flow_net.proofs.EntriesGoOn.{entry_called, entry_law, entry_there, kept_called, open_none}
use Rattle.flow_net.proofs.NoneAsked.{unasked_then}
use Rattle.flow_net.proofs.entry.NetEntry.end_so.Goals as goal

pub finish_at-requires : goal.finish_at-requires
finish_at-requires g c =
    let port = c.args.self.now in
    entry_there g.W.Runs.meaning port.engine.plan port.block port.link port.place port.there port.own port.placed
    port.engine.parts port.kept

pub invariant_of-self-2 : goal.invariant_of-self-2
invariant_of-self-2 g c =
    let port = c.args.self.now in
    let law = entry_law g.W.Runs.meaning port.engine.plan port.block port.link port.place port.there port.own port.placed port.engine.parts port.kept in
    let kept = kept_called g.W.Runs.meaning port.engine.plan port.block port.link port.place port.there port.own port.placed
    (InputCall.finish c.args.how) refl port.engine.parts c.finish_at.new.self c.finish_at.ensures port.kept (record {
      idle = idle_merely (entry_of port) law c.requires.idle;
      stays_open = open_none (entry_of port).ending c.requires.stays_open;
      numbered = c.requires.numbered;
    }) in
    let unasked = unasked_then port.engine.parts c.finish_at.new.self (ap callers_in c.finish_at.ensures) port.unasked in
    ((port.engine.routed, tt), (kept, (port.there, (port.own, (port.placed, (unasked, tt))))))

pub returns-clause-finished : goal.returns-clause-finished
returns-clause-finished g c =
    let port = c.args.self.now in
    entry_called g.W.Runs.meaning port.engine.plan port.block port.link port.place port.there port.own port.placed
    (InputCall.finish c.args.how) refl port.engine.parts c.finish_at.new.self c.finish_at.ensures port.kept
