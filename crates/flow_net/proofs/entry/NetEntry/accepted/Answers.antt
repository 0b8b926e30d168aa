use Rattle.std.proofs.Common.{◌≡◌, true, List, take, ap, subst, sym, ◌∙◌}
use Rattle.flow_value.specs.declared.value.Value.{Value}
use Rattle.flow_link.specs.Trace.{marks_of, took_over}
use Rattle.flow_link.specs.Lists.{is_front}
use Rattle.flow_input.specs.Input.{InputState}
use Rattle.flow_net.specs.Entries.{entry_of, entry_run}
use Rattle.flow_net.proofs.EntriesGoOn.{entry_in, entry_there, was_taken}
use Rattle.flow_net.proofs.entry.NetEntry.accepted.Goals as goal

pub input-requires : goal.input-requires
input-requires g c =
    let port = c.args.self.now in
    entry_there g.W.Runs.meaning port.engine.plan port.block port.link port.place port.there port.own port.placed
    port.engine.parts port.kept

pub returns-clause-taken : goal.returns-clause-taken
returns-clause-taken g c = λ t p to.
    let port = c.args.self.now in
    let taken = was_taken g.W.Runs.meaning port.engine.plan port.block port.link port.place port.there port.own port.placed
    port.engine.parts port.kept t p to in
    let same : c.accepted.result.now ≡ take (entry_of port).told (entry_of port).posted =
    c.accepted.ensures ∙ ap (λ (input : InputState). take input.told input.posted)
    (c.input.ensures ∙ entry_in g.W.Runs.meaning port.engine.plan port.block port.link port.place port.there port.own port.placed port.engine.parts) in
    subst (λ (values : List Value). is_front values (took_over port.link (marks_of (entry_run g.W.Runs.meaning port) t)) ≡ true) (sym same) taken
