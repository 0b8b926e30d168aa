use Rattle.std.proofs.Common.{rules, ◌<◌, [], ◌∷◌, length, sym, ◌∙◌}
use Rattle.flow_turn_rows.proofs.TasksOf.{task_of, whole_of}
use Rattle.flow_turn_rows.proofs.missing.the_second_task_is_missing.Goals as goal

pub gather-requires-2-clause-tasks_of : goal.gather-requires-2-clause-tasks_of
gather-requires-2-clause-tasks_of g c =
    let all = c.in-Ok.scattered in
    let second = c.remove-second.result in
    let back = c.in-Err.parts in
    let low : 1 < length all.tasks.items = search rules in
    let of = task_of all.board all.tasks.items 1 second c.in-Ok.ensures.tasks_of low c.remove-second.ensures.value in
    whole_of back.board back.tasks.items (second ∷ []) c.push.new.self.items c.in-Ok-push.ensures.items c.in-Err.ensures.tasks_back
    (of ∙ sym c.in-Err.ensures.back.board, tt)
