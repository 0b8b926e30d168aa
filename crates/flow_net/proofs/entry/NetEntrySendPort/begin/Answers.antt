use Rattle.std.proofs.Common.{rules, ap}
use Rattle.flow_input.proofs.OneProof.{busy_merely}
use Rattle.flow_net.specs.Entries.{entry_of, entry_stays}
use Rattle.flow_net.proofs.EntriesGoOn.{entry_law}
use Rattle.flow_input.specs.Input.{InputState}
use Rattle.flow_input.specs.Sends.{sends_of}
use Rattle.flow_net.proofs.entry.NetEntrySendPort.begin.Goals as goal

pub returns-then-not-is_idle-clause-why : goal.returns-then-not-is_idle-clause-why
returns-then-not-is_idle-clause-why g c =
    let port = c.args.self.now in
    busy_merely (entry_of port) (entry_law g.W.Runs.meaning port.engine.plan port.block port.link port.place port.there port.own port.placed port.engine.parts port.kept) (search rules)

pub returns-then-not-is_idle-clause-goes_on : goal.returns-then-not-is_idle-clause-goes_on
returns-then-not-is_idle-clause-goes_on g c = entry_stays c.args.self.now

pub returns-then-not-has_id-clause-goes_on : goal.returns-then-not-has_id-clause-goes_on
returns-then-not-has_id-clause-goes_on g c = entry_stays c.args.self.now

pub returns-in-Ok-clause-begins : goal.returns-in-Ok-clause-begins
returns-in-Ok-clause-begins g c = c.in-Ok.ensures.begins

pub returns-in-Ok-clause-goes_on : goal.returns-in-Ok-clause-goes_on
returns-in-Ok-clause-goes_on g c = c.begin_next.ensures.goes_on

pub returns-in-Err-clause-kept : goal.returns-in-Err-clause-kept
returns-in-Err-clause-kept g c = ap (λ (input : InputState). sends_of input) c.in-Err.ensures.kept

pub returns-in-Err-clause-goes_on : goal.returns-in-Err-clause-goes_on
returns-in-Err-clause-goes_on g c = c.begin_next.ensures.goes_on
