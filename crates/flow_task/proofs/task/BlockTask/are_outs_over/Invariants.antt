use Rattle.std.proofs.Common.{◌≡◌, ℕ, ◌<◌, true}
use Rattle.flow_outlet.specs.End.{is_over}
use Rattle.flow_task.specs.Turns.{stage_from}
use Rattle.flow_task.proofs.task.BlockTask.are_outs_over.Given as goal

-- so many links out of it are over
abbrev pub invariant-loop-place : goal.invariant-loop-place
invariant-loop-place g l = (k : ℕ) → k < l.place → is_over (stage_from k l.self.node) ≡ true
