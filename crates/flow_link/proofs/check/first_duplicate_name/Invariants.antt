use Rattle.std.proofs.Common.{◌≡◌, ◌<◌, ℕ, false, take, is_some}
use Rattle.flow_link.specs.Plan.{block_named, block_in}
use Rattle.flow_link.proofs.check.first_duplicate_name.Given as goal

abbrev pub invariant-loop-place : goal.invariant-loop-place
invariant-loop-place g l = (k : ℕ) → k < l.place → is_some (block_named (take k l.blocks) (block_in l.blocks k).name) ≡ false
