use Rattle.std.proofs.Common.{◌≡◌, ◌<◌, ℕ, false, length}
use Rattle.flow_link.specs.PlanFaults.{walks}
use Rattle.flow_link.proofs.cycle.has_cycle.Given as goal

abbrev pub invariant-loop-block : goal.invariant-loop-block
invariant-loop-block l = record {
  row_length : length l.row ≡ 256;
  next_length : length l.next ≡ 256;
  before : (b : ℕ) → b < l.block → walks l.links l.count l.count b b ≡ false;
}
