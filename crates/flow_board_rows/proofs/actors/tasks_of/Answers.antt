use Rattle.std.proofs.Common.{sym, ◌∙◌, subst}
use Rattle.flow_board.specs.At.{AllAt}
use Rattle.flow_board.specs.Parts.{AllTasksOf}
use Rattle.flow_task.proofs.Makes.{tasks_on}
use Rattle.flow_board_rows.proofs.actors.tasks_of.Goals as goal

pub loop-at-preserved : goal.loop-at-preserved
loop-at-preserved g c =
    let i = c.loop-at.invariant in
    let board = c.args.board.now in
    let at = subst (AllAt board) c.in-Some.ensures.steps.0 i.0 in
    let of = tasks_on board c.loop-at.tasks.items c.into_task.result i.1 (c.into_task.ensures.of ∙ at.0) in
    (at.1, subst (AllTasksOf board) (sym c.in-Ok.ensures.items) of)
