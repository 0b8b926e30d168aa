use Rattle.std.proofs.Common.{rules, ◌<◌, length, sym, ◌∙◌}
use Rattle.flow_board.specs.Parts.{task_number, watched_block}
use Rattle.flow_turn_rows.proofs.TasksOf.{first_number}
use Rattle.flow_turn_rows.proofs.watched.scattered.Goals as goal

pub returns-clause-block : goal.returns-clause-block
returns-clause-block g c =
    let tasks = c.in-Ok.scattered.tasks.items in
    let watches = c.in-Ok.scattered.watches.items in
    let some_task : 0 < length tasks = search rules in
    let some_watch : 0 < length watches = search rules in
    first_number watched_block watches c.remove-watch.result _ c.in-Ok.ensures.watched some_watch c.remove-watch.ensures.value
    ∙ sym (first_number task_number tasks c.remove-task.result _ c.in-Ok.ensures.there.tasks_are some_task c.remove-task.ensures.value)
