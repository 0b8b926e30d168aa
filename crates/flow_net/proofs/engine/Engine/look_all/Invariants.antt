use Rattle.std.proofs.Common.{◌≡◌}
use Rattle.flow_link.specs.Planned.{layout_of}
use Rattle.flow_core.specs.InOrder.{all_looked}
use Rattle.flow_exec.specs.Works.{works_of}
use Rattle.flow_net.proofs.engine.Engine.look_all.Given as goal

-- the plan is the same, and the ends of the links before this one have looked
abbrev pub invariant-loop-id : goal.invariant-loop-id
invariant-loop-id g l =
    let layout = layout_of l.initial.self.plan in
    (l.self.plan ≡ l.initial.self.plan) × (l.self.parts ≡ all_looked layout (works_of g.W.Runs.meaning layout) l.id l.initial.self.parts)
