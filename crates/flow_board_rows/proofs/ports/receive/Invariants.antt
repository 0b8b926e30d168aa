use Rattle.std.proofs.Common.{◌≡◌}
use Rattle.flow_board.specs.Parts.{AllTasksOf, exit_board}
use Rattle.flow_board_rows.proofs.ports.receive.Given as goal

-- the tasks are those of the board, and so is the exit
abbrev pub invariant-loop : goal.invariant-loop
invariant-loop g l = AllTasksOf l.board l.tasks.items × (exit_board l.exit ≡ exit_board l.fn.exit)
