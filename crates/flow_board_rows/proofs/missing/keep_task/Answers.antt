use Rattle.flow_board_rows.proofs.PartsOf.{front_of, back_of, whole_of}
use Rattle.flow_board_rows.proofs.missing.keep_task.Goals as goal

pub returns-clause-of : goal.returns-clause-of
returns-clause-of g c =
    let board = c.args.board.now in
    let tasks = c.args.tasks.now.items in
    let kept = c.in-Ok.kept.items in
    let others = c.in-Ok-split_off.others.items in
    let front = front_of board c.args.place tasks c.split_off.new.self.items c.in-Ok.ensures.items c.requires.of in
    let back = back_of board c.args.place tasks kept c.in-Ok.ensures.tail c.requires.of in
    let rest = back_of board 1 kept others c.in-Ok-split_off.ensures.tail back in
    whole_of board c.split_off.new.self.items others c.append.new.self.items c.in-Ok-append.ensures.items front rest

pub returns-clause-kept_of : goal.returns-clause-kept_of
returns-clause-kept_of g c =
    let board = c.args.board.now in
    let kept = c.in-Ok.kept.items in
    let back = back_of board c.args.place c.args.tasks.now.items kept c.in-Ok.ensures.tail c.requires.of in
    front_of board 1 kept c.split_off-2.new.self.items c.in-Ok-split_off.ensures.items back
