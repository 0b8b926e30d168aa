use Rattle.flow_board.specs.Parts.{AllTasksOf}
use Rattle.flow_board_rows.proofs.polls.ready.Given as goal

-- the tasks are those of the board, and the future gives no more than it might have given at first
abbrev pub invariant-loop : goal.invariant-loop
invariant-loop g l =
    AllTasksOf l.board l.tasks.items × g.F.Future.can_poll l.future × ((x : _) → g.F.Future.gives l.future x → g.F.Future.gives l.fn.future x)
