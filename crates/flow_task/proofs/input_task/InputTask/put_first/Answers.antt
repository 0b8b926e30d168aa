use Rattle.std.proofs.Common.{rules, ◌≡◌, ◌+◌, [], length, is_some, sym, ap, ◌∙◌, arith}
use Rattle.std.proofs.lemmas.Bool.{ltb-true}
use Rattle.std.proofs.lemmas.List.{drop_all}
use Rattle.flow_intake.specs.Calls.{first_of}
use Rattle.flow_input.specs.Input.{InputState, has_next}
use Rattle.flow_moves.proofs.MovesPrepared.{next_is_there}
use Rattle.flow_task.specs.Entries.{with_parcel}
use Rattle.flow_task.proofs.EntriesKeep.{none_left}
use Rattle.flow_task.proofs.TakenApart.{first_here}
use Rattle.flow_task.proofs.input_task.InputTask.put_first.Goals as goal

pub put_parcel-requires : goal.put_parcel-requires
put_parcel-requires g c = ap first_of (sym c.requires ∙ c.in-Some.ensures.items)

pub returns-in-Some-clause-same : goal.returns-in-Some-clause-same
returns-in-Some-clause-same g c = ap with_parcel c.put_parcel.ensures.put

pub returns-in-Some-clause-first : goal.returns-in-Some-clause-first
returns-in-Some-clause-first g c = λ more.
    let input = c.args.self.now.input in
    let is = c.put_parcel.ensures.put in
    ap (λ (state : InputState). is_some state.parcel) is
    ∙ next_is_there input.sent input.posted (sym (ap has_next is) ∙ more)

pub returns-in-Some-clause-rest : goal.returns-in-Some-clause-rest
returns-in-Some-clause-rest g c =
    let input = c.args.self.now.input in
    first_here input.posted c.pop_front.new.self.items input.sent c.in-Some.parcel (sym c.in-Some.ensures.items ∙ c.requires)

pub returns-in_default-clause-first : goal.returns-in_default-clause-first
returns-in_default-clause-first g c = λ more.
    let input = c.args.self.now.input in
    let none : c.args.ready.now.items ≡ [] = search rules in
    let short = none_left input.sent input.posted (sym c.requires ∙ none) in
    absurd (let small = ltb-true input.sent (length input.posted) more in omega (arith, small, short))

pub returns-in_default-clause-rest : goal.returns-in_default-clause-rest
returns-in_default-clause-rest g c =
    let input = c.args.self.now.input in
    let none : c.args.ready.now.items ≡ [] = search rules in
    let left : c.pop_front.new.self.items ≡ [] = search rules in
    let short = none_left input.sent input.posted (sym c.requires ∙ none) in
    left ∙ sym (drop_all (input.sent + 1) input.posted (omega (arith, short)))
