use Rattle.std.proofs.Common.{◌≡◌}
use Rattle.flow_net.proofs.engine.Engine.list_worked.Given as goal

abbrev pub invariant-loop-place : goal.invariant-loop-place
invariant-loop-place g l = (l.self.plan ≡ l.initial.self.plan) × (l.self.parts ≡ l.initial.self.parts)
