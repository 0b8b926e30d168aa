use Rattle.std.proofs.Common.{◌≡◌, Bool, List, refl, not, true, false, sym, ap, ◌∙◌, subst, arith}
use Rattle.std.proofs.lemmas.List.{get_or_default}
use Rattle.flow_link.specs.Planned.{layout_of}
use Rattle.flow_task.specs.Kinds.{BeginsBy}
use Rattle.flow_task.specs.Lefts.{InputsLeft, IsTakenFrom}
use Rattle.flow_task.specs.Numbers.{is_open}
use Rattle.flow_task.specs.declared.numbered.Entry.{Entry}
use Rattle.flow_task.specs.declared.numbered.Kind.{Kind}
use Rattle.flow_task.specs.declared.numbered.Task.{Task}
use Rattle.flow_task.proofs.InputsLeft.{entry_is, entry_taken, entry_there, never_other, task_is, task_taken, task_there}
use Rattle.flow_task.proofs.apart.next_input.Goals as goal

pub unreachable-requires : goal.unreachable-requires
unreachable-requires g c =
    let board = c.args.board.now in
    let opens = board.opens.items in
    let place = c.args.place in
    let opened : is_open (layout_of board.rest.plan) opens place ≡ true =
    get_or_default opens place false c.index.result.now c.requires.there ∙ sym c.index.ensures ∙ c.if-index.true in
    let some = entry_there board place c.args.tasks.now.items c.args.entries.now.items opened c.requires.left c.requires.there in
    omega (arith, some, c.args.entries.now.ok.0, c.in_default.ensures.cases.0)

pub returns-then-index-clause-link : goal.returns-then-index-clause-link
returns-then-index-clause-link g c =
    let board = c.args.board.now in
    let opens = board.opens.items in
    let place = c.args.place in
    let tasks = c.args.tasks.now.items in
    let opened : is_open (layout_of board.rest.plan) opens place ≡ true =
    get_or_default opens place false c.index.result.now c.requires.there ∙ sym c.index.ensures ∙ c.if-index.true in
    entry_is board place tasks c.pop_front.new.self.items opened c.in-Some.field-0
    (subst (λ (entries : List (Entry _ _ _)). InputsLeft board place tasks entries) c.in-Some.ensures.items c.requires.left)

pub returns-then-index-clause-left : goal.returns-then-index-clause-left
returns-then-index-clause-left g c =
    let board = c.args.board.now in
    let opens = board.opens.items in
    let place = c.args.place in
    let tasks = c.args.tasks.now.items in
    let opened : is_open (layout_of board.rest.plan) opens place ≡ true =
    get_or_default opens place false c.index.result.now c.requires.there ∙ sym c.index.ensures ∙ c.if-index.true in
    entry_taken board place tasks c.pop_front.new.self.items opened c.in-Some.field-0
    (subst (λ (entries : List (Entry _ _ _)). InputsLeft board place tasks entries) c.in-Some.ensures.items c.requires.left)

pub unreachable-requires-in_default-pop_front : goal.unreachable-requires-in_default-pop_front
unreachable-requires-in_default-pop_front g c =
    let board = c.args.board.now in
    let opens = board.opens.items in
    let place = c.args.place in
    let shut : is_open (layout_of board.rest.plan) opens place ≡ false =
    get_or_default opens place false c.index.result.now c.requires.there ∙ sym c.index.ensures ∙ c.if-index.false in
    let some = task_there board place c.args.tasks.now.items c.args.entries.now.items (ap not shut) c.requires.left c.requires.there in
    omega (arith, some, c.args.tasks.now.ok.0, c.in_default-pop_front.ensures.cases.0)

pub unreachable-requires-in_default-kind : goal.unreachable-requires-in_default-kind
unreachable-requires-in_default-kind g c =
    let board = c.args.board.now in
    let opens = board.opens.items in
    let place = c.args.place in
    let entries = c.args.entries.now.items in
    let shut : is_open (layout_of board.rest.plan) opens place ≡ false =
    get_or_default opens place false c.index.result.now c.requires.there ∙ sym c.index.ensures ∙ c.if-index.false in
    never_other board place c.pop_front-2.new.self.items entries (ap not shut) c.in-Some-pop_front.field-0
    (subst (λ (tasks : List (Task _ _ _)). InputsLeft board place tasks entries) c.in-Some-pop_front.ensures.items c.requires.left)
    c.requires.there c.in-Some-pop_front.field-0.kind refl c.in_default-kind.not-Input

pub returns-clause-link : goal.returns-clause-link
returns-clause-link g c =
    let board = c.args.board.now in
    let opens = board.opens.items in
    let place = c.args.place in
    let entries = c.args.entries.now.items in
    let shut : is_open (layout_of board.rest.plan) opens place ≡ false =
    get_or_default opens place false c.index.result.now c.requires.there ∙ sym c.index.ensures ∙ c.if-index.false in
    task_is board place c.pop_front-2.new.self.items entries (ap not shut) c.in-Some-pop_front.field-0
    (subst (λ (tasks : List (Task _ _ _)). InputsLeft board place tasks entries) c.in-Some-pop_front.ensures.items c.requires.left)
    c.in-Input.input c.in-Input.is

pub returns-clause-left : goal.returns-clause-left
returns-clause-left g c =
    let board = c.args.board.now in
    let opens = board.opens.items in
    let place = c.args.place in
    let entries = c.args.entries.now.items in
    let shut : is_open (layout_of board.rest.plan) opens place ≡ false =
    get_or_default opens place false c.index.result.now c.requires.there ∙ sym c.index.ensures ∙ c.if-index.false in
    task_taken board place c.pop_front-2.new.self.items entries (ap not shut) c.in-Some-pop_front.field-0
    (subst (λ (tasks : List (Task _ _ _)). InputsLeft board place tasks entries) c.in-Some-pop_front.ensures.items c.requires.left) shut c.requires.there

pub returns-then-index-clause-from : goal.returns-then-index-clause-from
returns-then-index-clause-from g c =
    let board = c.args.board.now in
    let opens = board.opens.items in
    let place = c.args.place in
    let opened : is_open (layout_of board.rest.plan) opens place ≡ true =
    get_or_default opens place false c.index.result.now c.requires.there ∙ sym c.index.ensures ∙ c.if-index.true in
    subst (λ (so : Bool). IsTakenFrom so c.in-Some.field-0.input c.args.entries.now.items c.pop_front.new.self.items) (sym opened)
    (c.in-Some.field-0, (c.in-Some.ensures.items, refl))

pub returns-clause-from : goal.returns-clause-from
returns-clause-from g c =
    let board = c.args.board.now in
    let opens = board.opens.items in
    let place = c.args.place in
    let entries = c.args.entries.now.items in
    let shut : is_open (layout_of board.rest.plan) opens place ≡ false =
    get_or_default opens place false c.index.result.now c.requires.there ∙ sym c.index.ensures ∙ c.if-index.false in
    subst (λ (so : Bool). IsTakenFrom so c.in-Input.input entries entries) (sym shut)
    (refl, subst (λ (kind : Kind _ _ _). ∥ BeginsBy kind ∥₁) c.in-Input.is c.in-Some-pop_front.field-0.begins)
