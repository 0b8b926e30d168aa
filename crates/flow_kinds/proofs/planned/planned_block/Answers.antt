use Rattle.std.proofs.Common.{ap, ◌∙◌}
use Rattle.flow_link.specs.Lists.{every}
use Rattle.flow_link.specs.Planned.{layout_of}
use Rattle.flow_intake.specs.Port.{PortState}
use Rattle.flow_outlet.specs.Outlet.{is_empty}
use Rattle.flow_block.proofs.PlannedBlocks.{none_waits}
use Rattle.flow_kinds.proofs.planned.planned_block.Goals as goal

pub new-requires : goal.new-requires
new-requires g c =
    ap (every (λ (port : PortState). is_empty port.waiting)) c.in_ok-ports.ensures
    ∙ none_waits (layout_of c.args.plan.now) c.args.number
