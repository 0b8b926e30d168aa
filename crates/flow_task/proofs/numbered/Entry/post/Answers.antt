use Rattle.flow_input.specs.Input.{InputCall, after_input}
use Rattle.flow_task.proofs.EntriesKeep.{posted_so}
use Rattle.flow_task.proofs.EntriesTell.{law_on, numbered_on}
use Rattle.flow_task.proofs.ExitSteps.{either_way}
use Rattle.flow_task.proofs.numbered.Entry.post.Goals as goal

pub invariant_of-self : goal.invariant_of-self
invariant_of-self g c =
    let entry = c.args.self.now in
    let new = c.post.new.self in
    let input = entry.input.input in
    record {
      numbered = numbered_on entry new c.post.ensures.of c.post.ensures.link;
      law = either_way c.post.result c.post.ensures.posted c.post.ensures.kept
          (λ is. law_on entry new c.post.ensures.of c.post.ensures.link entry.ready.items (after_input (InputCall.post c.args.value) input) is
          (λ law kept. posted_so _ input entry.ready.items kept c.args.value c.requires.may))
          (λ same. law_on entry new c.post.ensures.of c.post.ensures.link entry.ready.items input same (λ law kept. kept));
    }
