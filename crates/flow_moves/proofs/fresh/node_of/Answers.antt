use Rattle.std.proofs.Common.{ap, ◌∙◌, List}
use Rattle.flow_link.specs.Lists.{below, every}
use Rattle.flow_link.specs.Plan.{block_in, port_count}
use Rattle.flow_link.specs.Planned.{layout_of}
use Rattle.flow_intake.specs.Port.{PortState}
use Rattle.flow_outlet.specs.Outlet.{is_empty}
use Rattle.flow_block.specs.BlockFits.{fresh_block}
use Rattle.flow_moves.proofs.FreshBlocks.{none_waits, no_mark_due}
use Rattle.flow_moves.proofs.fresh.node_of.Goals as goal

pub new-requires : goal.new-requires
new-requires g c =
    let layout = layout_of c.args.plan.now in
    ap (every (λ (port : PortState). is_empty port.waiting)) c.in_ok-ports.ensures
    ∙ none_waits layout c.args.number (below (port_count (block_in layout.blocks c.args.number)))

pub new-requires-in-Ok : goal.new-requires-in-Ok
new-requires-in-Ok g c =
    let layout = layout_of c.args.plan.now in
    let kind = c.block-def.result.now.kind in
    let lanes = c.unwrap_or-lanes.result in
    let size = c.unwrap_or-size.result in
    let rules = c.in_ok-rules.rules.items in
    no_mark_due layout c.args.number kind lanes size (below (port_count (block_in layout.blocks c.args.number))) rules
    c.in-Ok.block
    (c.in-Ok.ensures ∙ ap (λ (ports : List PortState). fresh_block kind lanes size ports rules) c.in_ok-ports.ensures)
