use Rattle.std.proofs.Common.{◌≡◌}
use Rattle.flow_block.specs.Block.{takes_group}
use Rattle.flow_block.proofs.ports.drop_group.Given as goal

abbrev pub invariant-loop-taken : goal.invariant-loop-taken
invariant-loop-taken l = l.port ≡ takes_group l._taken l.initial.port
