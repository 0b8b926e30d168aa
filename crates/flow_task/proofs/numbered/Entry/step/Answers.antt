use Rattle.std.proofs.Common.{rules, ◌≡◌, sym, ◌∙◌}
use Rattle.std.proofs.Math.Bool.{Bool-set}
use Rattle.std.proofs.Math.Logic.{∥∥₁_elim}
use Rattle.flow_link.specs.declared.phase.Move.TheVariants.{Give}
use Rattle.flow_core.specs.Events.{input_after, input_call}
use Rattle.flow_input.proofs.InputsMove.{inputs_keep}
use Rattle.flow_task.proofs.EntriesTell.{entry_moved, law_on, numbered_on, stands_so}
use Rattle.flow_task.proofs.InputTells.{next_goes}
use Rattle.flow_task.proofs.numbered.Entry.step.Goals as goal

pub go_ready-requires-clause-ready : goal.go_ready-requires-clause-ready
go_ready-requires-clause-ready g c = λ more.
    let entry = c.args.self.now in
    let input = entry.input.input in
    let peek = (next_goes input c.in-Some.next (sym c.next_move.ensures ∙ c.in-Some.is)).peek_is in
    ∥∥₁_elim entry.law (Bool-set _ _) (λ law. law.first (stands_so input c.in-Some.next peek) more)

pub invariant_of-self : goal.invariant_of-self
invariant_of-self g c =
    let entry = c.args.self.now in
    let new = c.go_ready.new.self in
    let input = entry.input.input in
    let next = c.in-Some.next in
    let peek = (next_goes input next (sym c.next_move.ensures ∙ c.in-Some.is)).peek_is in
    let other : next ≡ Give → ⊥ = search rules in
    record {
      numbered = numbered_on entry new c.go_ready.ensures.of c.go_ready.ensures.link;
      law = law_on entry new c.go_ready.ensures.of c.go_ready.ensures.link entry.ready.items (input_after (input_call next) input)
          c.go_ready.ensures.done (λ law kept. entry_moved _ input entry.ready.items law kept next (inputs_keep.next input next law peek) other);
    }
