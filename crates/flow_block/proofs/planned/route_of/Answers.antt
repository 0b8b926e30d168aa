use Rattle.std.proofs.Common.{ap, sym, ◌∙◌, arith}
use Rattle.flow_link.specs.declared.plan.Link.{Link}
use Rattle.flow_link.specs.Plan.{no_link}
use Rattle.flow_link.specs.Planned.{layout_of}
use Rattle.flow_link.proofs.LinksLead.{links_lead}
use Rattle.flow_block.proofs.planned.route_of.Goals as goal

pub input_place-requires : goal.input_place-requires
input_place-requires g c =
    let leads = links_lead _ (layout_of c.args.plan.now) c.link-link.ensures.laid_out in
    let is = ap (λ (link : Link). link.source) (sym (c.link-link.ensures.its_number no_link)) ∙ c.in-Input.is in
    omega (arith, leads.from_input c.args.id c.in-Input.block c.requires is)
