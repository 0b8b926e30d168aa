use Rattle.std.proofs.Common.{◌≡◌, ℕ, ◌+◌, ◌<◌, false}
use Rattle.flow_block.specs.Jobs.{is_out}
use Rattle.flow_block.proofs.jobs.Jobs.find_out.Given as goal

-- no message before this place is out
abbrev pub invariant-loop-place : goal.invariant-loop-place
invariant-loop-place l = (t : ℕ) → t < l.self.first + l.place → is_out t l.self ≡ false
