use Rattle.std.proofs.Common.{rules, ◌<◌, length}
use Rattle.flow_turn_rows.proofs.TasksOf.{task_of, tasks_turned}
use Rattle.flow_turn_rows.proofs.rounds.turn_next.Goals as goal

pub turn-requires : goal.turn-requires
turn-requires c =
    let tasks = c.args.tasks.now.items in
    let low : c.in-Some.place < length tasks = search rules in
    record { of = task_of c.args.board.now tasks c.in-Some.place c.index_mut.result.now c.requires.of low c.index_mut.ensures.value }

pub returns-in_err-turn : goal.returns-in_err-turn
returns-in_err-turn c =
    let tasks = c.args.tasks.now.items in
    let low : c.in-Some.place < length tasks = search rules in
    record {
      of = tasks_turned c.args.board.now tasks c.in-Some.place c.index_mut.result.now c.turn.new.self c.requires.of low c.index_mut.ensures.value
          c.turn.ensures.of;
    }

pub returns : goal.returns
returns c =
    let tasks = c.args.tasks.now.items in
    let low : c.in-Some.place < length tasks = search rules in
    record {
      of = tasks_turned c.args.board.now tasks c.in-Some.place c.index_mut.result.now c.turn.new.self c.requires.of low c.index_mut.ensures.value
          c.turn.ensures.of;
    }
