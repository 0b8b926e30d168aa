use Rattle.std.proofs.Common.{sym, subst}
use Rattle.flow_board.specs.Parts.{AllEntriesOf, AllExitsOf, AllTasksOf}
use Rattle.flow_board_rows.proofs.PartsOf.{entries_with, exits_with, whole_of}
use Rattle.flow_board_rows.proofs.missing.are_missing.Goals as goal

pub gathered-requires-clause-tasks_of : goal.gathered-requires-clause-tasks_of
gathered-requires-clause-tasks_of g c =
    let board = c.args.parts.board in
    let back = c.refused-parts.ensures in
    let later = c.keep_task-later in
    let sooner = c.keep_task-sooner in
    let first = whole_of board c.refused-parts.result.tasks.items later.result.items c.append.new.self.items c.in-Ok.ensures.items back.tasks_of
    later.ensures.kept_of in
    let all = whole_of board c.append.new.self.items sooner.result.items c.append-2.new.self.items c.in-Ok-append.ensures.items first
    sooner.ensures.kept_of in
    subst (λ board. AllTasksOf board c.append-2.new.self.items) (sym back.board) all

pub gathered-requires-clause-entries_of : goal.gathered-requires-clause-entries_of
gathered-requires-clause-entries_of g c =
    let board = c.args.parts.board in
    let back = c.refused-parts.ensures in
    let kept = c.keep_entries-entries in
    let all = entries_with board c.refused-parts.result.entries.items kept.result.1.items back.entries_of kept.ensures.kept_of in
    subst (λ board. AllEntriesOf board c.append-3.new.self.items) (sym back.board)
    (subst (AllEntriesOf board) (sym c.in-Ok-append-2.ensures.items) all)

pub gathered-requires-clause-exits_of : goal.gathered-requires-clause-exits_of
gathered-requires-clause-exits_of g c =
    let board = c.args.parts.board in
    let back = c.refused-parts.ensures in
    let kept = c.keep_exits-exits in
    let all = exits_with board c.refused-parts.result.exits.items kept.result.1.items back.exits_of kept.ensures.kept_of in
    subst (λ board. AllExitsOf board c.append-4.new.self.items) (sym back.board)
    (subst (AllExitsOf board) (sym c.in-Ok-append-3.ensures.items) all)
