use Rattle.std.proofs.Common.{ℕ, ◌<◌}
use Rattle.flow_link.specs.Planned.{layout_of}
use Rattle.flow_moves.specs.Statements.{LinkIsIdle}
use Rattle.flow_net.proofs.engine.Engine.event_at_links.Given as goal

abbrev pub invariant-loop-id : goal.invariant-loop-id
invariant-loop-id g l = (k : ℕ) → k < l.id → LinkIsIdle (layout_of l.self.plan) l.self.parts k
