use Rattle.std.proofs.Common.{◌≡◌}
use Rattle.flow_moves.specs.Agendas.{spot_count}
use Rattle.flow_net.proofs.engine.Engine.next_event.Given as goal

abbrev pub invariant-loop-spot : goal.invariant-loop-spot
invariant-loop-spot g l = (l.self.plan ≡ l.initial.self.plan) × (l.self.parts ≡ l.initial.self.parts)

abbrev pub decreases-loop-spot : goal.decreases-loop-spot
decreases-loop-spot g l = spot_count l.self.agenda
