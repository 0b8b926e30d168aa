use Rattle.std.proofs.Common.{◌≡◌, ◌<◌, ℕ, false}
use Rattle.flow_link.specs.PlanFaults.{leads_twice}
use Rattle.flow_link.proofs.check.has_shared_source.Given as goal

abbrev pub invariant-loop-source : goal.invariant-loop-source
invariant-loop-source l = (k : ℕ) → k < l.source → leads_twice l.links k l.block ≡ false
