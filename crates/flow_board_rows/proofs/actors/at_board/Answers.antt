use Rattle.std.proofs.Common.{sym, subst}
use Rattle.flow_board.specs.At.{AllAt}
use Rattle.flow_board.specs.Parts.{AllTasksOf}
use Rattle.flow_board_rows.proofs.TasksAt.{at_on}
use Rattle.flow_board_rows.proofs.actors.at_board.Goals as goal

pub loop-task-preserved : goal.loop-task-preserved
loop-task-preserved g c =
    let i = c.loop-task.invariant in
    let board = c.args.board.now in
    let of = subst (AllTasksOf board) c.in-Some.ensures.steps.0 i.0 in
    let at = at_on board c.loop-task.all.items c.new.result i.1 c.new.ensures.board in
    (of.1, subst (AllAt board) (sym c.in-Ok.ensures.items) at)
