use Rattle.flow_core.specs.State.{callers_in}
use Rattle.flow_poll.specs.Sends.{Tells}
use Rattle.flow_poll.specs.declared.send.Sent.{Sent}
use Rattle.std.proofs.Common.{ap, sym, subst, ◌≡◌, ◌∙◌}
use Rattle.flow_input.specs.Input.{InputState}
use Rattle.flow_input.specs.Sends.{sends_of, told_next}
use Rattle.flow_input.proofs.OneProof.{told_merely}
use Rattle.flow_link.specs.Planned.{layout_of}
use Rattle.flow_core.specs.State.{input_at}
use Rattle.flow_net.specs.Entries.{entry_of}
use Rattle.flow_net.proofs.EntriesGoOn.{entry_in, entry_law, entry_there, entry_told, kept_told}
use Rattle.flow_net.proofs.NoneAsked.{unasked_then}
use Rattle.flow_net.proofs.entry.NetEntry.tell.Goals as goal

pub tell_at-requires : goal.tell_at-requires
tell_at-requires g c =
    let port = c.args.self.now in
    entry_there g.W.Runs.meaning port.engine.plan port.block port.link port.place port.there port.own port.placed
    port.engine.parts port.kept

pub invariant_of-self : goal.invariant_of-self
invariant_of-self g c =
    let port = c.args.self.now in
    let kept = kept_told g.W.Runs.meaning port.engine.plan port.block port.link port.place port.there port.own port.placed
    port.engine.parts c.tell_at.new.self port.kept c.tell_at.ensures.done in
    let unasked = unasked_then port.engine.parts c.tell_at.new.self (ap callers_in c.tell_at.ensures.done) port.unasked in
    ((port.engine.routed, tt), (kept, (port.there, (port.own, (port.placed, (unasked, tt))))))

pub returns-clause-tells : goal.returns-clause-tells
returns-clause-tells g c =
    let port = c.args.self.now in
    let old = entry_of port in
    let told = told_merely old (entry_law g.W.Runs.meaning port.engine.plan port.block port.link port.place port.there port.own port.placed port.engine.parts port.kept) in
    let answer : c.tell_at.result ≡ (told_next old).answer =
    c.tell_at.ensures.told ∙ ap (λ (input : InputState). (told_next input).answer)
    (entry_in g.W.Runs.meaning port.engine.plan port.block port.link port.place port.there port.own port.placed port.engine.parts) in
    let new = entry_told g.W.Runs.meaning port.engine.plan port.block port.link port.place port.there port.own port.placed
    port.engine.parts c.tell_at.new.self port.kept c.tell_at.ensures.done in
    subst (λ (sent : Sent). Tells sent (sends_of old) (sends_of (input_at (layout_of port.engine.plan) c.tell_at.new.self port.block))) (sym answer)
    (subst (λ (input : InputState). Tells (told_next old).answer (sends_of old) (sends_of input)) (sym new) told)
