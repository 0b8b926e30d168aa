use Rattle.std.proofs.Common.{◌≡◌, []}
use Rattle.flow_report.specs.Given.{lists_of, given_lists}
use Rattle.flow_report.proofs.given.nothing_given.Given as goal

abbrev pub invariant-loop : goal.invariant-loop
invariant-loop l = lists_of l.lists.items ≡ given_lists l.counter []
