use Rattle.std.proofs.Common.{◌≡◌, ℕ, map, ap, ◌∙◌, arith}
use Rattle.flow_link.specs.Lists.{below}
use Rattle.flow_link.specs.declared.draft.BlockDef.{BlockDef}
use Rattle.flow_link.specs.Plan.{port_count, no_block}
use Rattle.flow_link.specs.Planned.{layout_of}
use Rattle.flow_block.specs.Planned.{port_of_plan}
use Rattle.flow_block.proofs.PlanMade.{mapped_more}
use Rattle.flow_block.proofs.planned.ports_of.Goals as goal

pub loop-port-preserved : goal.loop-port-preserved
loop-port-preserved g c =
    c.in_ok-push.ensures.items
    ∙ mapped_more (port_of_plan (layout_of c.args.plan.now) c.args.block) c.loop-port.ports.items c.loop-port.port
    c.in_ok-port_of.field-0 c.loop-port.invariant c.in_ok-port_of.ensures

pub returns : goal.returns
returns g c =
    let all : c.loop-port.port ≡ c.port_count-port-end.result = omega arith in
    let count = all ∙ c.port_count-port-end.ensures ∙ ap (λ (block : BlockDef g.row.W.Denot). port_count block) (c.block.ensures no_block) in
    c.loop-port.invariant ∙ ap (λ (n : ℕ). map (port_of_plan (layout_of c.args.plan.now) c.args.block) (below n)) count
