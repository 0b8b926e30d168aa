use Rattle.std.proofs.Common.{◌≡◌, ℕ, length, ap, ◌∙◌, arith}
use Rattle.flow_link.specs.Planned.{layout_of}
use Rattle.flow_core.specs.InOrder.{all_looked}
use Rattle.flow_exec.specs.Works.{works_of}
use Rattle.flow_net.proofs.LooksAll.{all_aware, order_so_far}
use Rattle.flow_net.proofs.engine.Engine.look_all.Goals as goal

pub look_at-requires-clause-in_order : goal.look_at-requires-clause-in_order
look_at-requires-clause-in_order g c =
    let start = c.args.self.now in
    let now = c.loop-id.self in
    order_so_far g.W.Runs.meaning start.plan start.parts c.requires c.loop-id.id
    (omega (arith, c.loop-id.auto.id-end, c.link_count-id-end.ensures)) now.parts c.loop-id.invariant.1 now.plan c.loop-id.invariant.0

pub returns-clause-kept : goal.returns-clause-kept
returns-clause-kept g c =
    let start = c.args.self.now in
    let layout = layout_of start.plan in
    let now = c.loop-id.self in
    let all : c.loop-id.id ≡ length layout.links =
    omega (arith, c.loop-id.auto.id-end, c.loop-id-test.false, c.link_count-id-end.ensures) in
    all_aware g.W.Runs.meaning start.plan start.parts c.requires now.parts
    (c.loop-id.invariant.1 ∙ ap (λ (n : ℕ). all_looked layout (works_of g.W.Runs.meaning layout) n start.parts) all) now.plan c.loop-id.invariant.0
