use Rattle.std.proofs.Common.{◌≡◌, ◌≤◌, ◌-◌}
use Rattle.flow_link.specs.Planned.{layout_of}
use Rattle.flow_core.specs.Keeps.{NetKeeps}
use Rattle.flow_exec.specs.Works.{works_of}
use Rattle.flow_net.specs.Happened.{Happened}
use Rattle.flow_net.proofs.engine.Engine.hand_out.Given as goal

-- the plan is the same, the network is in order, and all events but so many have happened
abbrev pub invariant-loop-place : goal.invariant-loop-place
invariant-loop-place g l =
    let layout = layout_of l.initial.self.plan in
    let meaning = works_of g.W.Runs.meaning layout in
    (l.self.plan ≡ l.initial.self.plan) × ∥ NetKeeps layout meaning l.self.parts ∥₁ × (l.rest ≤ l.initial.rest)
    × Happened layout meaning (l.initial.rest - l.rest) l.initial.self.parts l.self.parts
