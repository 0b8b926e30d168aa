use Rattle.std.proofs.Common.{◌≡◌}
use Rattle.flow_group.specs.Group.{takes_first}
use Rattle.flow_group.proofs.group.take_first.Given as goal

abbrev pub invariant-loop-taken : goal.invariant-loop-taken
invariant-loop-taken l = l.port ≡ takes_first l._taken l.initial.port
