use Rattle.std.proofs.Common.{◌≡◌, map}
use Rattle.flow_board.specs.Parts.{AllExitsOf, exit_number}
use Rattle.flow_open.specs.Takes.{EachTakes}
use Rattle.flow_open.proofs.receivers.receive_round.Given as goal

abbrev pub invariant-loop-place : goal.invariant-loop-place
invariant-loop-place g l = record {
  of : AllExitsOf l.board l.exits.items;
  numbers : map exit_number l.exits.items ≡ map exit_number l.fn.exits.items;
  takes : EachTakes (λ state value next. goal.F-step g state value tt next) l.fn.exits.items l.fn.receivers.items l.exits.items l.receivers.items;
}
