use Rattle.std.proofs.Common.{◌≡◌, drop}
use Rattle.flow_intake.specs.Ended.{fault_at_ends, of_lower_link}
use Rattle.flow_intake.proofs.ends.Ends.fault_seen.Given as goal

abbrev pub invariant-loop-end : goal.invariant-loop-end
invariant-loop-end l = of_lower_link l.lowest (fault_at_ends (drop l.end-index l.end-items)) ≡ fault_at_ends l.self
