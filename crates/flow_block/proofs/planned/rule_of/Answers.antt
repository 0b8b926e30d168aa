use Rattle.flow_link.specs.Plan.{no_link}
use Rattle.flow_link.specs.Planned.{layout_of}
use Rattle.flow_block.proofs.PlanMade.{target_there}
use Rattle.flow_block.proofs.planned.rule_of.Goals as goal

pub is_steady-requires : goal.is_steady-requires
is_steady-requires g c =
    let layout = layout_of c.args.plan.now in
    target_there layout.blocks layout.links c.link-link.ensures.well_formed c.args.id c.link-link.result c.requires
    (c.link-link.ensures.its_number no_link)

pub is_sole-requires : goal.is_sole-requires
is_sole-requires g c =
    let layout = layout_of c.args.plan.now in
    target_there layout.blocks layout.links c.link-link.ensures.well_formed c.args.id c.link-link.result c.requires
    (c.link-link.ensures.its_number no_link)
