use Rattle.flow_board.specs.Parts.{AllEntriesOf, AllExitsOf, AllTasksOf}
use Rattle.refusals.proofs.ends.pass.Given as goal

-- all are of the board
abbrev pub invariant-loop : goal.invariant-loop
invariant-loop g l = AllTasksOf l.board l.tasks.items × AllEntriesOf l.board l.entries.items × AllExitsOf l.board l.exits.items
