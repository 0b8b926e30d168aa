use Rattle.std.proofs.Common.{◌≡◌, ◌<◌, ℕ, false}
use Rattle.flow_link.specs.PlanFaults.{shares_among}
use Rattle.flow_link.proofs.check.first_shared_source.Given as goal

abbrev pub invariant-loop-block : goal.invariant-loop-block
invariant-loop-block g l = (k : ℕ) → k < l.block → shares_among l.blocks l.links k ≡ false
