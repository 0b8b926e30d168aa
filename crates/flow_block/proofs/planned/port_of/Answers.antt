use Rattle.std.proofs.Common.{◌≡◌, ap, sym, ◌∙◌}
use Rattle.flow_link.specs.declared.plan.Link.{Link}
use Rattle.flow_link.specs.Plan.{block_in, ends_at_port, is_reserving, no_link}
use Rattle.flow_link.specs.Planned.{layout_of}
use Rattle.flow_intake.specs.Port.{fresh_port}
use Rattle.flow_block.specs.Planned.{is_into, room_of}
use Rattle.flow_block.proofs.PlanMade.{port_where, port_else}
use Rattle.flow_block.proofs.planned.port_of.Goals as goal
use Rattle.flow_block.proofs.planned.port_of.Goals.{then-enters+in_ok-add_link, else-enters}

pub loop-id-preserved : goal.loop-id-preserved
loop-id-preserved g c =
    let layout = layout_of c.args.plan.now in
    let id = c.loop-id.id in
    let def = block_in layout.blocks c.args.block in
    let base = record (fresh_port (room_of def)) { reserves = is_reserving def } in
    let so_far = c.loop-id.invariant in
    let here : is_into layout c.args.block c.args.port id ≡ c.enters.result =
    sym (c.enters.ensures
    ∙ ap (λ (link : Link). ends_at_port c.args.block c.args.port link.target) (c.link.ensures.its_number no_link)) in
    elim c.if-enters.branch [
      | then-enters+in_ok-add_link w ↦
          w.made-is
          ∙ port_where (is_into layout c.args.block c.args.port) id base c.loop-id.made w.add_link.new.self so_far
          w.in_ok-add_link.ensures.added (here ∙ w.if-enters.true)
      | else-enters w ↦
          w.made-is
          ∙ port_else (is_into layout c.args.block c.args.port) id base c.loop-id.made so_far (here ∙ w.if-enters.false)
    ]
