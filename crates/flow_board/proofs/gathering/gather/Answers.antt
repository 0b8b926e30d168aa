use Rattle.std.proofs.Common.{All, subst}
use Rattle.std.proofs.lemmas.Grind.{merely}
use Rattle.std.proofs.lemmas.List.Sorted.{All-permutation, IsPermutation-sym}
use Rattle.flow_net.specs.Net.{parts_of}
use Rattle.flow_core.specs.Inputs.{InputsStay}
use Rattle.flow_core.specs.InOrder.{journals_of}
use Rattle.flow_task.specs.Begun.{ClosedInputsStay, JournalsGoOn, begun_in}
use Rattle.flow_board.specs.Gathers.{EntryIsKept, ExitIsKept, GathersFrom}
use Rattle.flow_task.specs.Lefts.{TicketsAreOut}
use Rattle.flow_task.specs.Untouched.{AllUntouched, IsUntouched}
use Rattle.flow_task.specs.declared.board.Board.{Board}
use Rattle.flow_task.proofs.Reordered.{entries_sorted, exits_sorted, tasks_sorted}
use Rattle.flow_board.proofs.gathering.gather.Goals as goal

pub first_missing-requires-clause-tasks_of : goal.first_missing-requires-clause-tasks_of
first_missing-requires-clause-tasks_of g c =
    tasks_sorted c.args.parts.board c.sort.new.self.board c.args.parts.tasks.items c.sort.new.self.tasks.items c.sort.ensures.board
    c.sort.ensures.tasks_of c.requires.tasks_of

pub first_missing-requires-clause-entries_of : goal.first_missing-requires-clause-entries_of
first_missing-requires-clause-entries_of g c =
    entries_sorted c.args.parts.board c.sort.new.self.board c.args.parts.entries.items c.sort.new.self.entries.items c.sort.ensures.board
    c.sort.ensures.entries_of c.requires.entries_of

pub first_missing-requires-clause-exits_of : goal.first_missing-requires-clause-exits_of
first_missing-requires-clause-exits_of g c =
    exits_sorted c.args.parts.board c.sort.new.self.board c.args.parts.exits.items c.sort.new.self.exits.items c.sort.ensures.board
    c.sort.ensures.exits_of c.requires.exits_of

pub fill-requires-clause-tasks_of : goal.fill-requires-clause-tasks_of
fill-requires-clause-tasks_of g c =
    tasks_sorted c.args.parts.board c.sort.new.self.board c.args.parts.tasks.items c.sort.new.self.tasks.items c.sort.ensures.board
    c.sort.ensures.tasks_of c.requires.tasks_of

pub fill-requires-clause-entries_of : goal.fill-requires-clause-entries_of
fill-requires-clause-entries_of g c =
    entries_sorted c.args.parts.board c.sort.new.self.board c.args.parts.entries.items c.sort.new.self.entries.items c.sort.ensures.board
    c.sort.ensures.entries_of c.requires.entries_of

pub fill-requires-clause-exits_of : goal.fill-requires-clause-exits_of
fill-requires-clause-exits_of g c =
    exits_sorted c.args.parts.board c.sort.new.self.board c.args.parts.exits.items c.sort.new.self.exits.items c.sort.ensures.board
    c.sort.ensures.exits_of c.requires.exits_of

pub returns-in-Some-clause-why : goal.returns-in-Some-clause-why
returns-in-Some-clause-why g c =
    let found = c.in-Some.ensures in
    record { before = found.before; within = found.within; absent = found.missing }

pub returns-in-Some-clause-tasks_back : goal.returns-in-Some-clause-tasks_back
returns-in-Some-clause-tasks_back g c =
    tasks_sorted c.args.parts.board c.sort.new.self.board c.args.parts.tasks.items c.sort.new.self.tasks.items c.sort.ensures.board
    c.sort.ensures.tasks_of c.requires.tasks_of

pub returns-in-Some-clause-entries_back : goal.returns-in-Some-clause-entries_back
returns-in-Some-clause-entries_back g c =
    entries_sorted c.args.parts.board c.sort.new.self.board c.args.parts.entries.items c.sort.new.self.entries.items c.sort.ensures.board
    c.sort.ensures.entries_of c.requires.entries_of

pub returns-in-Some-clause-exits_back : goal.returns-in-Some-clause-exits_back
returns-in-Some-clause-exits_back g c =
    exits_sorted c.args.parts.board c.sort.new.self.board c.args.parts.exits.items c.sort.new.self.exits.items c.sort.ensures.board
    c.sort.ensures.exits_of c.requires.exits_of

pub returns-in-Err-clause-tasks_back : goal.returns-in-Err-clause-tasks_back
returns-in-Err-clause-tasks_back g c =
    tasks_sorted c.args.parts.board c.sort.new.self.board c.args.parts.tasks.items c.sort.new.self.tasks.items c.sort.ensures.board
    c.sort.ensures.tasks_of c.requires.tasks_of

pub returns-in-Err-clause-entries_back : goal.returns-in-Err-clause-entries_back
returns-in-Err-clause-entries_back g c =
    entries_sorted c.args.parts.board c.sort.new.self.board c.args.parts.entries.items c.sort.new.self.entries.items c.sort.ensures.board
    c.sort.ensures.entries_of c.requires.entries_of

pub returns-in-Err-clause-exits_back : goal.returns-in-Err-clause-exits_back
returns-in-Err-clause-exits_back g c =
    exits_sorted c.args.parts.board c.sort.new.self.board c.args.parts.exits.items c.sort.new.self.exits.items c.sort.ensures.board
    c.sort.ensures.exits_of c.requires.exits_of

pub returns-in-Ok-clause-journals : goal.returns-in-Ok-clause-journals
returns-in-Ok-clause-journals g c =
    let there = c.in_default.ensures.all in
    subst (λ (board : Board _). GathersFrom board c.args.parts.tasks.items (journals_of (parts_of c.fill.result))) c.sort.ensures.board
    (merely (c.sort.new.self.tasks.items, (c.sort.ensures.tasks, (there.tasks_are, c.fill.ensures.journals))))

pub returns-in-Ok-clause-go_on : goal.returns-in-Ok-clause-go_on
returns-in-Ok-clause-go_on g c =
    subst (λ (board : Board _). JournalsGoOn board (parts_of c.fill.result)) c.sort.ensures.board c.fill.ensures.go_on

pub returns-in-Ok-clause-posted : goal.returns-in-Ok-clause-posted
returns-in-Ok-clause-posted g c =
    subst (λ (board : Board _). ClosedInputsStay board (parts_of c.fill.result)) c.sort.ensures.board c.fill.ensures.posted

pub returns-in-Ok-clause-inputs_stay : goal.returns-in-Ok-clause-inputs_stay
returns-in-Ok-clause-inputs_stay g c = λ untouched.
    let net = parts_of c.fill.result in
    let board = c.args.parts.board in
    let sorted = c.sort.new.self.entries.items in
    let all = All-permutation (IsUntouched board) c.args.parts.entries.items sorted c.sort.ensures.entries untouched in
    subst (λ (its : Board _). AllUntouched its sorted → InputsStay (begun_in its) net) c.sort.ensures.board c.fill.ensures.inputs_stay all

pub returns-in-Ok-clause-entries : goal.returns-in-Ok-clause-entries
returns-in-Ok-clause-entries g c =
    let net = parts_of c.fill.result in
    let board = c.args.parts.board in
    let sorted = c.sort.new.self.entries.items in
    All-permutation (λ entry. EntryIsKept g.W.Runs.meaning board net entry) sorted c.args.parts.entries.items
    (IsPermutation-sym c.args.parts.entries.items sorted c.sort.ensures.entries)
    (subst (λ (its : Board _). All (λ entry. EntryIsKept g.W.Runs.meaning its net entry) sorted) c.sort.ensures.board c.fill.ensures.entries)

pub returns-in-Ok-clause-exits : goal.returns-in-Ok-clause-exits
returns-in-Ok-clause-exits g c =
    let net = parts_of c.fill.result in
    let board = c.args.parts.board in
    let sorted = c.sort.new.self.exits.items in
    All-permutation (λ exit. ExitIsKept g.W.Runs.meaning board net exit) sorted c.args.parts.exits.items
    (IsPermutation-sym c.args.parts.exits.items sorted c.sort.ensures.exits)
    (subst (λ (its : Board _). All (λ exit. ExitIsKept g.W.Runs.meaning its net exit) sorted) c.sort.ensures.board c.fill.ensures.exits)

pub returns-in-Ok-clause-out : goal.returns-in-Ok-clause-out
returns-in-Ok-clause-out g c =
    let net = parts_of c.fill.result in
    let sorted = c.sort.new.self.tasks.items in
    All-permutation (λ task. TicketsAreOut net.nodes task) sorted c.args.parts.tasks.items
    (IsPermutation-sym c.args.parts.tasks.items sorted c.sort.ensures.tasks) c.fill.ensures.out
