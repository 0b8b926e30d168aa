use Rattle.std.proofs.Common.{reverse, Some}
use Rattle.flow_crew.specs.Journals.{journals}
use Rattle.flow_crew.specs.Numbers.{numbers}
use Rattle.flow_crew.proofs.round.turn_for.Given as goal

abbrev pub ghosts-turn_in : goal.ghosts-turn_in
ghosts-turn_in g a = record {
  board = Some a.board.now;
  all = reverse (numbers a.tasks.items);
  came = journals a.tasks.items;
}
