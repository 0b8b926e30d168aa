use Rattle.std.proofs.Common.{◌≡◌, ◌-◌, take}
use Rattle.flow_block.specs.Groups.{waiting_in_all}
use Rattle.flow_block.proofs.groups.has_at_least.Given as goal

abbrev pub invariant-loop-port : goal.invariant-loop-port
invariant-loop-port l = l.missing ≡ l.count - waiting_in_all (take l.port-index l.ports)
