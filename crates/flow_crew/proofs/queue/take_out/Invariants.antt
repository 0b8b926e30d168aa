use Rattle.std.proofs.Common.{◌≡◌}
use Rattle.std.specs.Vec.{vec_capacity}
use Rattle.crossbeam_queue.specs.Passes.{view, IsPassOf}
use Rattle.flow_crew.specs.Numbers.{numbers}
use Rattle.flow_crew.specs.Rounds.{AllIn}
use Rattle.flow_crew.specs.Rules.{all_parts}
use Rattle.flow_crew.proofs.queue.take_out.Given as goal

abbrev pub invariant-loop : goal.invariant-loop
invariant-loop g l = record {
  queue : IsPassOf l.queue l.pass;
  part : (view l.pass).parts ≡ all_parts;
  holds : (view l.pass).holds ≡ numbers l.tasks.items;
  in_round : AllIn g.J.Round.board g.J.Round.came l.tasks.items;
  room : vec_capacity l.tasks ≡ vec_capacity l.initial.tasks;
}
