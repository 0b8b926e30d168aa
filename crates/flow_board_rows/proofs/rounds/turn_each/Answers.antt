use Rattle.std.proofs.Common.{rules, ◌<◌, length}
use Rattle.flow_board_rows.proofs.PartsOf.{task_of, tasks_turned}
use Rattle.flow_board_rows.proofs.rounds.turn_each.Goals as goal

pub turn-requires : goal.turn-requires
turn-requires c =
    let tasks = c.loop-place.tasks.items in
    let low : c.loop-place.place < length tasks = search rules in
    record { of = task_of c.args.board.now tasks c.loop-place.place c.index_mut.result.now c.loop-place.invariant low c.index_mut.ensures.value }

pub returns-in_err-turned : goal.returns-in_err-turned
returns-in_err-turned c =
    let tasks = c.loop-place.tasks.items in
    let low : c.loop-place.place < length tasks = search rules in
    record {
      of = tasks_turned c.args.board.now tasks c.loop-place.place c.index_mut.result.now c.turn.new.self c.loop-place.invariant low
          c.index_mut.ensures.value c.turn.ensures.of;
    }

pub loop-place-preserved : goal.loop-place-preserved
loop-place-preserved c =
    let tasks = c.loop-place.tasks.items in
    let low : c.loop-place.place < length tasks = search rules in
    tasks_turned c.args.board.now tasks c.loop-place.place c.index_mut.result.now c.turn.new.self c.loop-place.invariant low
    c.index_mut.ensures.value c.turn.ensures.of
