use Rattle.flow_input.specs.Input.{InputCall, after_input}
use Rattle.flow_task.proofs.EntriesKeep.{finished}
use Rattle.flow_task.proofs.EntriesTell.{law_on, numbered_on}
use Rattle.flow_task.proofs.numbered.Entry.end_so.Goals as goal

pub invariant_of-self : goal.invariant_of-self
invariant_of-self g c =
    let entry = c.args.self.now in
    let new = c.finish.new.self in
    let input = entry.input.input in
    record {
      numbered = numbered_on entry new c.finish.ensures.of c.finish.ensures.link;
      law = law_on entry new c.finish.ensures.of c.finish.ensures.link entry.ready.items (after_input (InputCall.finish c.args.how) input)
          c.finish.ensures.finished (λ law kept. finished _ input entry.ready.items kept c.args.how c.requires);
    }
