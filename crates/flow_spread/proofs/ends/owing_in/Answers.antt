use Rattle.std.proofs.Common.{arith}
use Rattle.flow_spread.specs.End.{owes_it}
use Rattle.flow_spread.proofs.CountsOfEnds.{count_below}
use Rattle.flow_spread.proofs.ends.owing_in.Goals as goal

pub overflow_add-owing : goal.overflow_add-owing
overflow_add-owing c = omega (arith, c.loop-place.invariant, count_below owes_it c.args.ends.now)
