use Rattle.flow_board_rows.proofs.TasksAt.{at_later}
use Rattle.flow_board_rows.proofs.actors.crew_ended.Goals as goal

pub tasks_of-requires : goal.tasks_of-requires
tasks_of-requires g c =
    let gives = rw c.new.ensures.actors at c.in-Ok.ensures in
    record { at = at_later c.args.board.now _ c.at_board-all.result.items c.in-Ok.all.items gives.1 c.at_board-all.ensures.at }
