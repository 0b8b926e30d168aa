use Rattle.std.proofs.Common.{refl, ap, ◌∙◌}
use Rattle.flow_input.specs.Input.{InputCall, InputState, after_input}
use Rattle.flow_input.specs.Sends.{sends_of}
use Rattle.flow_input.proofs.PostedKept.{posted_is_kept}
use Rattle.flow_task.proofs.EntriesKeep.{looked}
use Rattle.flow_task.proofs.EntriesTell.{law_on, numbered_on, unseen}
use Rattle.flow_task.proofs.numbered.Entry.see.Goals as goal

pub invariant_of-self : goal.invariant_of-self
invariant_of-self g c =
    let entry = c.args.self.now in
    let new = c.look.new.self in
    let input = entry.input.input in
    let found = c.look.ensures.looked in
    record {
      numbered = numbered_on entry new c.look.ensures.of c.look.ensures.link;
      law = law_on entry new c.look.ensures.of c.look.ensures.link entry.ready.items (after_input (InputCall.look found.0) input) found.1
          (λ law kept. looked _ input entry.ready.items kept found.0 law);
    }

pub returns-clause-same : goal.returns-clause-same
returns-clause-same g c =
    let entry = c.args.self.now in
    let found = c.look.ensures.looked in
    ap sends_of found.1 ∙ unseen entry.input.input entry.input.law (InputCall.look found.0) refl

pub returns-clause-same_ending : goal.returns-clause-same_ending
returns-clause-same_ending g c =
    let input = c.args.self.now.input.input in
    let found = c.look.ensures.looked in
    ap (λ (state : InputState). state.ending) found.1 ∙ (posted_is_kept.stays input (InputCall.look found.0) refl).same_ending
