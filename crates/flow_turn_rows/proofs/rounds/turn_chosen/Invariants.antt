use Rattle.flow_board.specs.Parts.{AllTasksOf}
use Rattle.flow_turn_rows.proofs.rounds.turn_chosen.Given as goal

abbrev pub invariant-loop-turn : goal.invariant-loop-turn
invariant-loop-turn l = AllTasksOf l.board l.tasks.items
