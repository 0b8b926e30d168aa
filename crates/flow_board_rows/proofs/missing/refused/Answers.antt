use Rattle.flow_task.proofs.Reordered.{entries_stay, exits_stay, tasks_stay}
use Rattle.flow_board_rows.proofs.missing.refused.Goals as goal

pub returns-clause-tasks_of : goal.returns-clause-tasks_of
returns-clause-tasks_of g c =
    let back = c.in-Err.ensures.back in
    tasks_stay c.args.parts.tasks.items c.in-Err.parts.tasks.items back.tasks c.args.parts.board c.requires.tasks_of

pub returns-clause-entries_of : goal.returns-clause-entries_of
returns-clause-entries_of g c =
    let back = c.in-Err.ensures.back in
    entries_stay c.args.parts.entries.items c.in-Err.parts.entries.items back.entries c.args.parts.board c.requires.entries_of

pub returns-clause-exits_of : goal.returns-clause-exits_of
returns-clause-exits_of g c =
    let back = c.in-Err.ensures.back in
    exits_stay c.args.parts.exits.items c.in-Err.parts.exits.items back.exits c.args.parts.board c.requires.exits_of
