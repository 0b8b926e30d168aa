use Rattle.flow_input.specs.Sends.{after_told, told_next}
use Rattle.flow_task.proofs.EntriesTell.{entry_told, law_on, numbered_on}
use Rattle.flow_task.proofs.numbered.Entry.tell.Goals as goal

pub invariant_of-self : goal.invariant_of-self
invariant_of-self g c =
    let entry = c.args.self.now in
    let new = c.tell.new.self in
    let input = entry.input.input in
    record {
      numbered = numbered_on entry new c.tell.ensures.of c.tell.ensures.link;
      law = law_on entry new c.tell.ensures.of c.tell.ensures.link entry.ready.items (after_told (told_next input).call input) c.tell.ensures.done
          (λ law kept. entry_told _ input entry.ready.items law kept);
    }
