use Rattle.flow_block_rows.specs.Driven.{Rests}
use Rattle.flow_block_rows.proofs.script.takes.Given as goal

abbrev pub invariant-loop-message : goal.invariant-loop-message
invariant-loop-message g l = Rests (g.T.TargetBlock.target_stage l.target)
