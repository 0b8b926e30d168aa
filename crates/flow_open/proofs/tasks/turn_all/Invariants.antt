use Rattle.flow_crew.specs.Rounds.{ComeBack}
use Rattle.flow_open.proofs.tasks.turn_all.Given as goal

abbrev pub invariant-loop : goal.invariant-loop
invariant-loop g l = ComeBack l.board l.fn.tasks.items l.tasks.items
