use Rattle.std.proofs.Common.{rules, ◌≡◌, List, [], Option, sym, ap, ◌∙◌, subst}
use Rattle.std.specs.Coded.{codes}
use Rattle.std.proofs.Math.Bool.{Bool-set}
use Rattle.std.proofs.Math.Logic.{∥∥₁_elim}
use Rattle.flow_value.specs.declared.value.Value.{Value}
use Rattle.flow_value.specs.contracts.value.Value as content
use Rattle.flow_intake.specs.Calls.{first_of}
use Rattle.flow_link.specs.declared.phase.Move.TheVariants.{Give}
use Rattle.flow_input.specs.Input.{InputCall, after_input, next_value}
use Rattle.flow_task.specs.Begun.{begun_input}
use Rattle.flow_task.specs.Entries.{EntryLaw, with_parcel}
use Rattle.flow_task.proofs.EntriesKeep.{gave_last, gave_next}
use Rattle.flow_task.proofs.EntriesTell.{gives_next, law_on, numbered_on, stands_so}
use Rattle.flow_task.proofs.numbered.Entry.give.Goals as goal

Options-set : IsSet (Option Value)
Options-set = Prim.hlevel (codes, content.the_row.coded)

pub go_ready-requires-clause-ready : goal.go_ready-requires-clause-ready
go_ready-requires-clause-ready g c = λ more.
    let entry = c.args.self.now in
    ∥∥₁_elim entry.law (Bool-set _ _) (λ law. law.first (stands_so entry.input.input Give c.requires.next) more)

pub put_parcel-requires : goal.put_parcel-requires
put_parcel-requires g c =
    let entry = c.args.self.now in
    let input = entry.input.input in
    let so = gives_next input c.requires.next in
    ap next_value c.go_ready.ensures.done
    ∙ ∥∥₁_elim entry.law (Options-set _ _) (λ law. ap first_of (sym (law.rest so.stands) ∙ c.in-Some.ensures.items))

pub invariant_of-self : goal.invariant_of-self
invariant_of-self g c =
    let entry = c.args.self.now in
    let new = c.put_parcel.new.self in
    let input = entry.input.input in
    let so = gives_next input c.requires.next in
    let of = c.put_parcel.ensures.of ∙ c.go_ready.ensures.of in
    let link = c.put_parcel.ensures.link ∙ c.go_ready.ensures.link in
    record {
      numbered = numbered_on entry new of link;
      law = law_on entry new of link c.pop_front.new.self.items (with_parcel (after_input InputCall.give input))
          (c.put_parcel.ensures.put ∙ ap with_parcel c.go_ready.ensures.done)
          (λ law kept. gave_next _ input entry.ready.items kept c.in-Some.parcel c.pop_front.new.self.items so.stands (c.requires.told ∙ so.all)
          c.in-Some.ensures.items);
    }

pub invariant_of-self-in_default : goal.invariant_of-self-in_default
invariant_of-self-in_default g c =
    let entry = c.args.self.now in
    let new = c.go_ready.new.self in
    let input = entry.input.input in
    let so = gives_next input c.requires.next in
    let none : entry.ready.items ≡ [] = search rules in
    let left : c.pop_front.new.self.items ≡ entry.ready.items = search rules in
    record {
      numbered = numbered_on entry new c.go_ready.ensures.of c.go_ready.ensures.link;
      law = law_on entry new c.go_ready.ensures.of c.go_ready.ensures.link c.pop_front.new.self.items (after_input InputCall.give input)
          c.go_ready.ensures.done
          (λ law kept. subst (λ (ready : List Value). EntryLaw (begun_input entry.input.of.value entry.input.link) (after_input InputCall.give input) ready) (sym left)
          (gave_last _ input entry.ready.items kept so.stands (c.requires.told ∙ so.all) none));
    }
