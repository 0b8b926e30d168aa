use Rattle.flow_input.specs.Input.{InputCall, after_input}
use Rattle.flow_task.proofs.EntriesKeep.{sent_back}
use Rattle.flow_task.proofs.EntriesTell.{law_on, numbered_on}
use Rattle.flow_task.proofs.numbered.Entry.send_back.Goals as goal

pub invariant_of-self : goal.invariant_of-self
invariant_of-self g c =
    let entry = c.args.self.now in
    let new = c.send_back.new.self in
    let input = entry.input.input in
    record {
      numbered = numbered_on entry new c.send_back.ensures.of c.send_back.ensures.link;
      law = law_on entry new c.send_back.ensures.of c.send_back.ensures.link entry.ready.items
          (after_input (InputCall.send_back c.args.value c.args.at_once) input) c.send_back.ensures.back
          (λ law kept. sent_back _ input entry.ready.items kept c.args.value c.args.at_once);
    }
