use Rattle.flow_core.specs.State.{callers_in}
use Rattle.std.proofs.Common.{refl, ap}
use Rattle.flow_input.specs.Input.{InputCall}
use Rattle.flow_net.proofs.EntriesGoOn.{entry_either, entry_there, kept_either}
use Rattle.flow_net.proofs.NoneAsked.{unasked_either}
use Rattle.flow_net.proofs.entry.NetEntry.begin_later.Goals as goal

pub begin_at-requires : goal.begin_at-requires
begin_at-requires g c =
    let port = c.args.self.now in
    entry_there g.W.Runs.meaning port.engine.plan port.block port.link port.place port.there port.own port.placed
    port.engine.parts port.kept

pub invariant_of-self : goal.invariant_of-self
invariant_of-self g c =
    let port = c.args.self.now in
    let kept = kept_either g.W.Runs.meaning port.engine.plan port.block port.link port.place port.there port.own port.placed
    (InputCall.begin c.args.value) refl port.engine.parts c.begin_at.new.self c.begin_at.result c.begin_at.ensures.begun c.begin_at.ensures.kept
    c.requires port.kept in
    let unasked = unasked_either port.engine.parts c.begin_at.new.self c.begin_at.result (λ done. ap callers_in done) c.begin_at.ensures.begun
    c.begin_at.ensures.kept port.unasked in
    ((port.engine.routed, tt), (kept, (port.there, (port.own, (port.placed, (unasked, tt))))))

pub returns-clause-begun : goal.returns-clause-begun
returns-clause-begun g c =
    let port = c.args.self.now in
    entry_either g.W.Runs.meaning port.engine.plan port.block port.link port.place port.there port.own port.placed
    (InputCall.begin c.args.value) refl port.engine.parts c.begin_at.new.self c.begin_at.result c.begin_at.ensures.begun port.kept
