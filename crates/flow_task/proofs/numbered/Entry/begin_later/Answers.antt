use Rattle.flow_input.specs.Input.{InputCall, after_input}
use Rattle.flow_task.specs.Entries.{with_parcel}
use Rattle.flow_task.proofs.EntriesKeep.{begun_so}
use Rattle.flow_task.proofs.EntriesTell.{law_on, numbered_on}
use Rattle.flow_task.proofs.ExitSteps.{either_way}
use Rattle.flow_task.proofs.numbered.Entry.begin_later.Goals as goal

pub invariant_of-self : goal.invariant_of-self
invariant_of-self g c =
    let entry = c.args.self.now in
    let new = c.begin.new.self in
    let input = entry.input.input in
    record {
      numbered = numbered_on entry new c.begin.ensures.of c.begin.ensures.link;
      law = either_way c.begin.result c.begin.ensures.begun c.begin.ensures.kept
          (λ is. law_on entry new c.begin.ensures.of c.begin.ensures.link entry.ready.items (with_parcel (after_input (InputCall.begin c.args.value) input)) is
          (λ law kept. begun_so _ input entry.ready.items kept c.args.value c.requires))
          (λ same. law_on entry new c.begin.ensures.of c.begin.ensures.link entry.ready.items input same (λ law kept. kept));
    }
