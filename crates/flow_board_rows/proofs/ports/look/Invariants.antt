use Rattle.std.proofs.Common.{◌≡◌}
use Rattle.flow_board.specs.Parts.{AllTasksOf, entry_board}
use Rattle.flow_board_rows.proofs.ports.look.Given as goal

-- the tasks are those of the board, and so is the entry
abbrev pub invariant-loop : goal.invariant-loop
invariant-loop g l = AllTasksOf l.board l.tasks.items × (entry_board l.entry ≡ entry_board l.fn.entry)
