use Rattle.std.proofs.Common.{◌≡◌, true, sym, ap, ◌∙◌, subst}
use Rattle.flow_poll.specs.Sends.{SendView, Tells}
use Rattle.flow_poll.specs.declared.send.Sent.{Sent}
use Rattle.flow_input.specs.Input.{InputState}
use Rattle.flow_input.specs.Sends.{after_told, sends_of, settled, told_next}
use Rattle.flow_input.proofs.OneProof.{told_merely}
use Rattle.flow_task.specs.Entries.{Says, tells_nothing}
use Rattle.flow_task.proofs.EntriesTell.{ending_told, says_on, says_told, told_nothing}
use Rattle.flow_task.proofs.numbered.Entry.look.Goals as goal

pub step-requires-clause-told : goal.step-requires-clause-told
step-requires-clause-told g c =
    let seen = c.see.new.self in
    let input = seen.input.input in
    let nothing : tells_nothing (told_next input).answer ≡ true =
    ap tells_nothing (sym c.tell-sent.ensures.told) ∙ sym c.tells_nothing.ensures ∙ c.if-tells_nothing.true in
    let told = told_nothing input seen.input.law nothing in
    let is = c.tell-sent.ensures.done ∙ told.same in
    ap (λ (state : InputState). state.told) is ∙ told.all ∙ sym (ap settled is)

pub returns-then-tells_nothing-clause-tells : goal.returns-then-tells_nothing-clause-tells
returns-then-tells_nothing-clause-tells g c =
    let first = c.args.self.now.input.input in
    let seen = c.see.new.self in
    let input = seen.input.input in
    let last = c.step.new.self.input.input in
    let sends = c.step.ensures.same ∙ ap sends_of c.tell-sent.ensures.done in
    subst (λ (sent : Sent). Tells sent (sends_of first) (sends_of last)) (sym c.tell-sent.ensures.told)
    (subst (λ (view : SendView). Tells (told_next input).answer (sends_of first) view) (sym sends)
    (subst (λ (view : SendView). Tells (told_next input).answer view (sends_of (after_told (told_next input).call input))) c.see.ensures.same (told_merely input seen.input.law)))

pub returns-then-tells_nothing-clause-says : goal.returns-then-tells_nothing-clause-says
returns-then-tells_nothing-clause-says g c =
    let seen = c.see.new.self in
    let input = seen.input.input in
    let told = c.tell-sent.new.self.input.input in
    let last = c.step.new.self.input.input in
    let says = subst (λ (state : InputState). Says (told_next input).answer state) (sym c.tell-sent.ensures.done)
    (says_told _ input seen.ready.items seen.input.law seen.law) in
    says_on c.tell-sent.result told last (sym c.tells_nothing.ensures ∙ c.if-tells_nothing.true)
    (subst (λ (sent : Sent). Says sent told) (sym c.tell-sent.ensures.told) says)
    (record { sends = c.step.ensures.same; same_ending = c.step.ensures.same_ending; stands = c.step.ensures.stands })

pub returns-then-tells_nothing-clause-same_ending : goal.returns-then-tells_nothing-clause-same_ending
returns-then-tells_nothing-clause-same_ending g c =
    c.step.ensures.same_ending ∙ ap (λ (state : InputState). state.ending) c.tell-sent.ensures.done
    ∙ ending_told c.see.new.self.input.input ∙ c.see.ensures.same_ending

pub returns-else-tells_nothing-clause-tells : goal.returns-else-tells_nothing-clause-tells
returns-else-tells_nothing-clause-tells g c =
    let first = c.args.self.now.input.input in
    let seen = c.see.new.self in
    let input = seen.input.input in
    let told = c.tell-sent.new.self.input.input in
    subst (λ (sent : Sent). Tells sent (sends_of first) (sends_of told)) (sym c.tell-sent.ensures.told)
    (subst (λ (state : InputState). Tells (told_next input).answer (sends_of first) (sends_of state)) (sym c.tell-sent.ensures.done)
    (subst (λ (view : SendView). Tells (told_next input).answer view (sends_of (after_told (told_next input).call input))) c.see.ensures.same (told_merely input seen.input.law)))

pub returns-else-tells_nothing-clause-says : goal.returns-else-tells_nothing-clause-says
returns-else-tells_nothing-clause-says g c =
    let seen = c.see.new.self in
    let input = seen.input.input in
    let told = c.tell-sent.new.self.input.input in
    subst (λ (sent : Sent). Says sent told) (sym c.tell-sent.ensures.told)
    (subst (λ (state : InputState). Says (told_next input).answer state) (sym c.tell-sent.ensures.done)
    (says_told _ input seen.ready.items seen.input.law seen.law))

pub returns-else-tells_nothing-clause-same_ending : goal.returns-else-tells_nothing-clause-same_ending
returns-else-tells_nothing-clause-same_ending g c =
    ap (λ (state : InputState). state.ending) c.tell-sent.ensures.done ∙ ending_told c.see.new.self.input.input ∙ c.see.ensures.same_ending
