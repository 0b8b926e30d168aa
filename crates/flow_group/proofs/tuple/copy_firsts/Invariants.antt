use Rattle.std.proofs.Common.{◌≡◌, take, map}
use Rattle.flow_group.specs.Tuple.{first_at}
use Rattle.flow_group.proofs.tuple.copy_firsts.Given as goal

abbrev pub invariant-loop-port : goal.invariant-loop-port
invariant-loop-port l = l.firsts.items ≡ map first_at (take l.port-index l.ports)
